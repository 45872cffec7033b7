use Rattle.std.specs.Prelude.{ℕ, Bool, true, false, List, Option, Some, None, ◌+◌, ◌*◌, ◌%◌, ◌^◌, if◌then◌else◌}
use Rattle.gba_arm_table.specs.declared.operation.ArmOp.{ArmOp}
use Rattle.gba_arm_table.specs.declared.operation.ComputeOp.TheVariants.{And, Rsb}
use Rattle.gba_arm_table.specs.declared.operation.Condition.{Condition}
use Rattle.gba_arm_table.specs.declared.operation.Condition.TheVariants.{Equal, NotEqual, CarrySet, CarryClear}
use Rattle.gba_bus.specs.Meanings.{Load, Price, Store}
use Rattle.gba_exec_quick.specs.Effects.{effect_of_quick}
use Rattle.gba_exec_quick.specs.Making.{QuickFits, quick_of_word}
use Rattle.gba_exec_quick.specs.declared.quick.Quick.{Quick}
use Rattle.gba_exec_quick.specs.declared.quick.Quick.TheVariants as quick
use Rattle.gba_exec_registers.specs.Access.{after_jump, code_cost, counter, jump_cost}
use Rattle.gba_exec_registers.specs.Conditions.{holds}
use Rattle.gba_exec_registers.specs.declared.site.Site.{Site}
use Rattle.gba_exec_transfers.specs.Done.{Done}
use Rattle.gba_exec_transfers.specs.Effects.{internal}
use Rattle.gba_psr.specs.RegisterFile.{flags}
use Rattle.gba_thumb_exec.specs.Effects.{effect_of_meaning}
use Rattle.gba_thumb_exec.specs.Meanings.{MeaningFits, meaning_of}
use Rattle.gba_thumb_exec.specs.declared.forms.Form.{Form}
use Rattle.gba_thumb_exec.specs.declared.forms.Form.TheVariants as form
use Rattle.gba_thumb_exec.specs.declared.meaning.Meaning.{Meaning}
use Rattle.gba_thumb_exec.specs.declared.meaning.Meaning.TheVariants.{Arm, NearLoad, NearAddress, BranchIf, Branch, LinkHigh, LinkLow}
use Rattle.gba_thumb_table.specs.declared.operation.ThumbOp.{ThumbOp}
use Rattle.gba_word.specs.declared.kinds.Shift.TheVariants.{Lsl, Lsr}

-- How halfwords are performed. The law `forms_have_their_effect` says that they then have the effect of their
-- operation.

-- a jump by so many halfwords, as a number of bytes modulo 2 ^ 32
abbrev pub branch_distance : ℕ → ℕ
branch_distance halfwords = 2 * halfwords % 2 ^ 32

-- The commonest quick forms are forms of their own.
abbrev pub narrowed : Quick → Form
narrowed (quick.AddNumber rn rd value) = form.AddNumber rn rd value
narrowed (quick.AddPlain rn rd rm) = form.AddPlain rn rd rm
narrowed (quick.MovPlain rn rd rm) = form.MovPlain rn rd rm
narrowed (quick.SetAddNumber rn rd value turned) = form.SetAddNumber rn rd value turned
narrowed (quick.SetSubNumber rn rd value turned) = form.SetSubNumber rn rd value turned
narrowed (quick.SetMovNumber rn rd value turned) = form.SetMovNumber rn rd value turned
narrowed (quick.SetNumber Rsb rn rd value turned) = form.SetRsbNumber rn rd value turned
narrowed (quick.SetAddPlain rn rd rm) = form.SetAddPlain rn rd rm
narrowed (quick.SetSubPlain rn rd rm) = form.SetSubPlain rn rd rm
narrowed (quick.SetAndPlain rn rd rm) = form.SetAndPlain rn rd rm
narrowed (quick.SetEorPlain rn rd rm) = form.SetEorPlain rn rd rm
narrowed (quick.SetAdcPlain rn rd rm) = form.SetAdcPlain rn rd rm
narrowed (quick.SetOrrPlain rn rd rm) = form.SetOrrPlain rn rd rm
narrowed (quick.SetBicPlain rn rd rm) = form.SetBicPlain rn rd rm
narrowed (quick.SetMvnPlain rn rd rm) = form.SetMvnPlain rn rd rm
narrowed (quick.SetMovShifted rn rd rm Lsl amount) = form.MoveLeft rn rd rm amount
narrowed (quick.SetMovShifted rn rd rm Lsr amount) = form.MoveRight rn rd rm amount
narrowed (quick.CmpNumber rn value turned) = form.CmpNumber rn value turned
narrowed (quick.CmpPlain rn rm) = form.CmpPlain rn rm
narrowed (quick.ComparePlain And rn rm) = form.TstPlain rn rm
narrowed (quick.LoadWord rn rd offset) = form.LoadWord rn rd offset
narrowed (quick.LoadByte rn rd offset) = form.LoadByte rn rd offset
narrowed (quick.StoreWord rn rd offset) = form.StoreWord rn rd offset
narrowed (quick.StoreByte rn rd offset) = form.StoreByte rn rd offset
narrowed (quick.Branch distance) = form.Branch distance
narrowed one = form.Quick one

-- the quick form of an ARM operation
abbrev pub quickly : ArmOp → Form
quickly arm = narrowed (quick_of_word (Some arm))

-- so are the branches under the commonest conditions
abbrev pub branch_form : Condition → ℕ → Form
branch_form Equal distance = form.BranchEqual distance
branch_form NotEqual distance = form.BranchNotEqual distance
branch_form CarrySet distance = form.BranchCarrySet distance
branch_form CarryClear distance = form.BranchCarryClear distance
branch_form condition distance = form.BranchIf condition distance

-- how an operation is performed, by its meaning
abbrev pub form_of : Meaning → Form
form_of (Arm operation) = quickly operation
form_of (NearLoad rd words) = form.NearLoad rd words
form_of (NearAddress rd words) = form.NearAddress rd words
form_of (BranchIf condition halfwords) = branch_form condition (branch_distance halfwords)
form_of (Branch halfwords) = form.Branch (branch_distance halfwords)
form_of (LinkHigh n11) = form.LinkHigh n11
form_of (LinkLow n11) = form.LinkLow n11

-- how a halfword of this operation is performed; one without an operation takes the Undefined trap
abbrev pub form_of_half : Option ThumbOp → Form
form_of_half None = form.Quick quick.Trap
form_of_half (Some operation) = form_of (meaning_of operation)

-- A form with the commonest ones taken back: a quick form, B by so many bytes under a condition, or a
-- meaning of its own.
pub data Wide : Type 0 where
  Quickly : Quick → Wide
  Under : Condition → ℕ → Wide
  Own : Meaning → Wide

abbrev pub widened : Form → Wide
widened (form.Quick one) = Quickly one
widened (form.AddNumber rn rd value) = Quickly (quick.AddNumber rn rd value)
widened (form.AddPlain rn rd rm) = Quickly (quick.AddPlain rn rd rm)
widened (form.MovPlain rn rd rm) = Quickly (quick.MovPlain rn rd rm)
widened (form.SetAddNumber rn rd value turned) = Quickly (quick.SetAddNumber rn rd value turned)
widened (form.SetSubNumber rn rd value turned) = Quickly (quick.SetSubNumber rn rd value turned)
widened (form.SetMovNumber rn rd value turned) = Quickly (quick.SetMovNumber rn rd value turned)
widened (form.SetRsbNumber rn rd value turned) = Quickly (quick.SetNumber Rsb rn rd value turned)
widened (form.SetAddPlain rn rd rm) = Quickly (quick.SetAddPlain rn rd rm)
widened (form.SetSubPlain rn rd rm) = Quickly (quick.SetSubPlain rn rd rm)
widened (form.SetAndPlain rn rd rm) = Quickly (quick.SetAndPlain rn rd rm)
widened (form.SetEorPlain rn rd rm) = Quickly (quick.SetEorPlain rn rd rm)
widened (form.SetAdcPlain rn rd rm) = Quickly (quick.SetAdcPlain rn rd rm)
widened (form.SetOrrPlain rn rd rm) = Quickly (quick.SetOrrPlain rn rd rm)
widened (form.SetBicPlain rn rd rm) = Quickly (quick.SetBicPlain rn rd rm)
widened (form.SetMvnPlain rn rd rm) = Quickly (quick.SetMvnPlain rn rd rm)
widened (form.MoveLeft rn rd rm amount) = Quickly (quick.SetMovShifted rn rd rm Lsl amount)
widened (form.MoveRight rn rd rm amount) = Quickly (quick.SetMovShifted rn rd rm Lsr amount)
widened (form.CmpNumber rn value turned) = Quickly (quick.CmpNumber rn value turned)
widened (form.CmpPlain rn rm) = Quickly (quick.CmpPlain rn rm)
widened (form.TstPlain rn rm) = Quickly (quick.ComparePlain And rn rm)
widened (form.LoadWord rn rd offset) = Quickly (quick.LoadWord rn rd offset)
widened (form.LoadByte rn rd offset) = Quickly (quick.LoadByte rn rd offset)
widened (form.StoreWord rn rd offset) = Quickly (quick.StoreWord rn rd offset)
widened (form.StoreByte rn rd offset) = Quickly (quick.StoreByte rn rd offset)
widened (form.Branch distance) = Quickly (quick.Branch distance)
widened (form.BranchEqual distance) = Under Equal distance
widened (form.BranchNotEqual distance) = Under NotEqual distance
widened (form.BranchCarrySet distance) = Under CarrySet distance
widened (form.BranchCarryClear distance) = Under CarryClear distance
widened (form.BranchIf condition distance) = Under condition distance
widened (form.NearLoad rd words) = Own (NearLoad rd words)
widened (form.NearAddress rd words) = Own (NearAddress rd words)
widened (form.LinkHigh n11) = Own (LinkHigh n11)
widened (form.LinkLow n11) = Own (LinkLow n11)

-- a form whose registers and numbers fit
abbrev pub WideFits : Wide → Type 0
WideFits (Quickly one) = QuickFits one
WideFits (Under condition distance) = Unit {0}
WideFits (Own meaning) = MeaningFits meaning

abbrev pub FormFits : Form → Type 0
FormFits one = WideFits (widened one)

-- the forms that are no common ones
abbrev pub is_rest : Form → Bool
is_rest (form.Quick one) = true
is_rest (form.BranchIf condition distance) = true
is_rest (form.NearLoad rd words) = true
is_rest (form.NearAddress rd words) = true
is_rest (form.LinkHigh n11) = true
is_rest (form.LinkLow n11) = true
is_rest _ = false

module _ {State : Type 0} (price : Price State) (load : Load State) (store : Store State) where
  -- B under a condition, which costs 1S where it doesn't hold
  abbrev pub branch_under : Condition → ℕ → Site → List ℕ → State → Done State
  branch_under condition distance site file bus =
      if holds condition (flags file)
      then internal price load store bus (after_jump file ((counter site + distance) % 2 ^ 32))
      (jump_cost (code_cost price bus site))
      else internal price load store bus file (code_cost price bus site true)

  abbrev pub effect_of_wide : Wide → Site → List ℕ → State → Done State
  effect_of_wide (Quickly one) site file bus = effect_of_quick price load store one site file bus
  effect_of_wide (Under condition distance) site file bus = branch_under condition distance site file bus
  effect_of_wide (Own meaning) site file bus = effect_of_meaning price load store meaning site file bus

  -- what a form leaves
  unfoldable pub effect_of_form : Form → Site → List ℕ → State → Done State
  effect_of_form one site file bus = effect_of_wide (widened one) site file bus
