use Rattle.std.specs.Prelude.{ℕ, true, false, ◌<◌}
use Rattle.gba_arm_table.specs.Limits as arm
use Rattle.gba_arm_table.specs.Numbers.{condition_of}
use Rattle.gba_thumb_exec.specs.Operations.{shift_by_constant, add_or_subtract, process_number, process_register, full_register, process_full_register, transfer_by_register, half_by_register, transfer_by_number, half_by_number, stack_transfer, stack_address, stack_move, push_or_pop, block, software_interrupt}
use Rattle.gba_thumb_exec.specs.declared.meaning.Meaning.{Meaning}
use Rattle.gba_thumb_exec.specs.declared.meaning.Meaning.TheVariants.{Arm, NearLoad, NearAddress, BranchIf, Branch, LinkHigh, LinkLow}
use Rattle.gba_thumb_table.specs.declared.operation.ThumbOp.{ThumbOp}
use Rattle.gba_thumb_table.specs.declared.operation.ThumbOp.TheVariants as op
use Rattle.gba_word.specs.Extension.{sign_extension}

-- What each Thumb operation means: most formats an ARM operation (GBATEK, THUMB.1 to THUMB.19). Distances are signed
-- numbers of halfwords, of 32 bits.
abbrev pub meaning_of : ThumbOp → Meaning
meaning_of (op.Format1 op o5 rs rd) = Arm (shift_by_constant op o5 rs rd)
meaning_of (op.Format2 i op x3 rs rd) = Arm (add_or_subtract i op x3 rs rd)
meaning_of (op.Format3 op rd n8) = Arm (process_number op rd n8)
meaning_of (op.Format4 op rs rd) = Arm (process_register op rs rd)
meaning_of (op.Format5 op h1 h2 rs rd) = Arm (process_full_register op (full_register h2 rs) (full_register h1 rd))
meaning_of (op.Format6 rd n8) = NearLoad rd n8
meaning_of (op.Format7 l b ro rb rd) = Arm (transfer_by_register l b ro rb rd)
meaning_of (op.Format8 h s ro rb rd) = Arm (half_by_register h s ro rb rd)
meaning_of (op.Format9 b l o5 rb rd) = Arm (transfer_by_number b l o5 rb rd)
meaning_of (op.Format10 l o5 rb rd) = Arm (half_by_number l o5 rb rd)
meaning_of (op.Format11 l rd n8) = Arm (stack_transfer l rd n8)
meaning_of (op.Format12 false rd n8) = NearAddress rd n8
meaning_of (op.Format12 true rd n8) = Arm (stack_address rd n8)
meaning_of (op.Format13 s n7) = Arm (stack_move s n7)
meaning_of (op.Format14 l r list8) = Arm (push_or_pop l r list8)
meaning_of (op.Format15 l rb list8) = Arm (block l rb list8)
meaning_of (op.Format16 cond n8) = BranchIf (condition_of cond) (sign_extension n8 8)
meaning_of (op.Format17 n8) = Arm (software_interrupt n8)
meaning_of (op.Format18 n11) = Branch (sign_extension n11 11)
meaning_of (op.Format19 false n11) = LinkHigh n11
meaning_of (op.Format19 true n11) = LinkLow n11

-- one whose registers and numbers fit
abbrev pub MeaningFits : Meaning → Type 0
MeaningFits (Arm operation) = arm.Fits operation
MeaningFits (NearLoad rd words) = (rd < 8) × (words < 256)
MeaningFits (NearAddress rd words) = (rd < 8) × (words < 256)
MeaningFits (BranchIf condition halfwords) = Unit {0}
MeaningFits (Branch halfwords) = Unit {0}
MeaningFits (LinkHigh n11) = n11 < 2048
MeaningFits (LinkLow n11) = n11 < 2048
