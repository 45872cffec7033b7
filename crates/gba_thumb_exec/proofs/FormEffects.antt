-- A halfword's form has the effect of its operation, and fields that fit.
use Rattle.std.proofs.Common.{◌≡◌, ℕ, Bool, true, false, List, ◌+◌, ◌*◌, ◌%◌, ◌^◌, ◌<◌, ◌==◌, refl, ap, ◌∙◌, arith, if◌then◌else◌}
use Rattle.std.specs.Prelude.{Option, Some, None, IfSome}
use Rattle.gba_arm_table.specs.Limits.{Within, half_offsets, half_registers, operand_immediates, operand_registers, transfer_immediates, transfer_offsets, transfer_registers}
use Rattle.gba_arm_table.specs.Limits as arm
use Rattle.gba_arm_table.specs.Numbers.{condition_of}
use Rattle.gba_arm_table.specs.declared.operation.ArmOp.{ArmOp}
use Rattle.gba_arm_table.specs.declared.operation.CompareOp.{CompareOp}
use Rattle.gba_arm_table.specs.declared.operation.CompareOp.TheVariants.{Tst, Cmp, Cmn}
use Rattle.gba_arm_table.specs.declared.operation.ComputeOp.{ComputeOp}
use Rattle.gba_arm_table.specs.declared.operation.ComputeOp.TheVariants.{And, Eor, Sub, Rsb, Add, Adc, Sbc, Orr, Mov, Bic, Mvn}
use Rattle.gba_arm_table.specs.declared.operation.Condition.{Condition}
use Rattle.gba_arm_table.specs.declared.operation.Condition.TheVariants.{Equal, NotEqual, CarrySet, CarryClear}
use Rattle.gba_arm_table.specs.declared.operation.HalfKind.{HalfKind}
use Rattle.gba_arm_table.specs.declared.operation.HalfOffset.{HalfOffset}
use Rattle.gba_arm_table.specs.declared.operation.HalfOffset.TheVariants as half_offset
use Rattle.gba_arm_table.specs.declared.operation.Operand.{Operand}
use Rattle.gba_arm_table.specs.declared.operation.TransferOffset.{TransferOffset}
use Rattle.gba_arm_table.specs.declared.operation.TransferOffset.TheVariants as transfer_offset
use Rattle.gba_bus.specs.Meanings.{Load, Price, Store}
use Rattle.gba_exec_quick.specs.Effects.{effect_of_quick}
use Rattle.gba_exec_quick.specs.Making.{QuickFits, quick_of_word}
use Rattle.gba_exec_quick.specs.declared.quick.Quick.{Quick}
use Rattle.gba_exec_quick.specs.declared.quick.Quick.TheVariants as quick
use Rattle.gba_exec_registers.specs.Access.{after_jump, code_cost, counter, jump_cost}
use Rattle.gba_exec_registers.specs.Conditions.{holds}
use Rattle.gba_exec_registers.specs.declared.site.Site.{Site}
use Rattle.gba_exec_transfers.specs.Done.{Done}
use Rattle.gba_exec_transfers.specs.Effects.{effect, effect_of_word, internal}
use Rattle.gba_psr.specs.RegisterFile.{flags}
use Rattle.gba_thumb_exec.specs.Effects.{after_short_branch, conditional_branch, effect_of_half, effect_of_meaning, short_branch, thumb_effect}
use Rattle.gba_thumb_exec.specs.Forms.{FormFits, branch_distance, branch_form, branch_under, effect_of_form, form_of, form_of_half, narrowed, quickly}
use Rattle.gba_thumb_exec.specs.Meanings.{MeaningFits, meaning_of}
use Rattle.gba_thumb_exec.specs.Operations.{shift_by_constant, add_or_subtract, process_number, process_register, full_register, process_full_register, transfer_by_register, half_by_register, transfer_by_number, half_by_number, stack_transfer, stack_address, stack_move, push_or_pop, block, software_interrupt, comparison, half_transfer, plain, processing, quiet_processing, shift_by_register, small_number, transfer, words_number}
use Rattle.gba_thumb_exec.specs.declared.meaning.Meaning.{Meaning}
use Rattle.gba_thumb_exec.specs.declared.meaning.Meaning.TheVariants.{Arm, NearLoad, NearAddress, BranchIf, Branch, LinkHigh, LinkLow}
use Rattle.gba_thumb_table.specs.Limits as thumb
use Rattle.gba_thumb_table.specs.Table.{operation}
use Rattle.gba_thumb_table.specs.declared.operation.ThumbOp.{ThumbOp}
use Rattle.gba_thumb_table.specs.declared.operation.ThumbOp.TheVariants as op
use Rattle.gba_word.specs.Extension.{sign_extension}
use Rattle.gba_word.specs.declared.kinds.Shift.{Shift}
use Rattle.gba_word.specs.declared.kinds.Shift.TheVariants.{Lsl, Lsr, Asr, Ror}

-- ---- effects

wrapped : (a b : ℕ) → (a + b % 2 ^ 32) % 2 ^ 32 ≡ (a + b) % 2 ^ 32
wrapped a b = omega arith

module _ {State : Type 0} (price : Price State) (load : Load State) (store : Store State)
    (quick-is : (one : Option ArmOp) (site : Site) (file : List ℕ) (bus : State)
    → effect_of_quick price load store (quick_of_word one) site file bus
    ≡ effect_of_word price load store one site file bus) where
  -- a form of its own has the effect of the quick form
  narrowed-is : (one : Quick) (site : Site) (file : List ℕ) (bus : State)
      → effect_of_form price load store (narrowed one) site file bus
      ≡ effect_of_quick price load store one site file bus
  unfolding effect_of_form
  narrowed-is (quick.AddNumber rn rd value) site file bus = refl
  narrowed-is (quick.AddPlain rn rd rm) site file bus = refl
  narrowed-is (quick.MovPlain rn rd rm) site file bus = refl
  narrowed-is (quick.SetAddNumber rn rd value turned) site file bus = refl
  narrowed-is (quick.SetSubNumber rn rd value turned) site file bus = refl
  narrowed-is (quick.SetMovNumber rn rd value turned) site file bus = refl
  narrowed-is (quick.SetNumber Rsb rn rd value turned) site file bus = refl
  narrowed-is (quick.SetAddPlain rn rd rm) site file bus = refl
  narrowed-is (quick.SetSubPlain rn rd rm) site file bus = refl
  narrowed-is (quick.SetAndPlain rn rd rm) site file bus = refl
  narrowed-is (quick.SetEorPlain rn rd rm) site file bus = refl
  narrowed-is (quick.SetAdcPlain rn rd rm) site file bus = refl
  narrowed-is (quick.SetOrrPlain rn rd rm) site file bus = refl
  narrowed-is (quick.SetBicPlain rn rd rm) site file bus = refl
  narrowed-is (quick.SetMvnPlain rn rd rm) site file bus = refl
  narrowed-is (quick.SetMovShifted rn rd rm Lsl amount) site file bus = refl
  narrowed-is (quick.SetMovShifted rn rd rm Lsr amount) site file bus = refl
  narrowed-is (quick.CmpNumber rn value turned) site file bus = refl
  narrowed-is (quick.CmpPlain rn rm) site file bus = refl
  narrowed-is (quick.ComparePlain And rn rm) site file bus = refl
  narrowed-is (quick.LoadWord rn rd offset) site file bus = refl
  narrowed-is (quick.LoadByte rn rd offset) site file bus = refl
  narrowed-is (quick.StoreWord rn rd offset) site file bus = refl
  narrowed-is (quick.StoreByte rn rd offset) site file bus = refl
  narrowed-is (quick.Branch distance) site file bus = refl
  narrowed-is _ site file bus = refl

  arm-is : (one : ArmOp) (site : Site) (file : List ℕ) (bus : State)
      → effect_of_form price load store (quickly one) site file bus ≡ effect price load store one site file bus
  unfolding effect_of_form effect_of_word
  arm-is one site file bus = narrowed-is (quick_of_word (Some one)) site file bus ∙ quick-is (Some one) site file bus

  jumped : (halfwords : ℕ) (site : Site) (file : List ℕ) (bus : State)
      → internal price load store bus (after_jump file ((counter site + branch_distance halfwords) % 2 ^ 32))
      (jump_cost (code_cost price bus site))
      ≡ short_branch price load store halfwords site file bus
  unfolding after_short_branch
  jumped halfwords site file bus =
      ap (λ target. internal price load store bus (after_jump file target) (jump_cost (code_cost price bus site)))
      (wrapped (counter site) (2 * halfwords))

  branch-is : (halfwords : ℕ) (site : Site) (file : List ℕ) (bus : State)
      → effect_of_form price load store (form_of (Branch halfwords)) site file bus
      ≡ short_branch price load store halfwords site file bus
  unfolding effect_of_form effect_of_quick
  branch-is halfwords site file bus = jumped halfwords site file bus

  same-branch : (test : Bool) (one other rest : Done State) → one ≡ other
      → (if test then one else rest) ≡ (if test then other else rest)
  same-branch true one other rest same = same
  same-branch false one other rest same = refl

  branch_form-is : (condition : Condition) (distance : ℕ) (site : Site) (file : List ℕ) (bus : State)
      → effect_of_form price load store (branch_form condition distance) site file bus
      ≡ branch_under price load store condition distance site file bus
  unfolding effect_of_form
  branch_form-is Equal distance site file bus = refl
  branch_form-is NotEqual distance site file bus = refl
  branch_form-is CarrySet distance site file bus = refl
  branch_form-is CarryClear distance site file bus = refl
  branch_form-is _ distance site file bus = refl

  conditional-is : (condition : Condition) (halfwords : ℕ) (site : Site) (file : List ℕ) (bus : State)
      → effect_of_form price load store (form_of (BranchIf condition halfwords)) site file bus
      ≡ conditional_branch price load store condition halfwords site file bus
  unfolding effect_of_form
  conditional-is condition halfwords site file bus =
      branch_form-is condition (branch_distance halfwords) site file bus
      ∙ same-branch (holds condition (flags file)) _
      (short_branch price load store halfwords site file bus)
      (internal price load store bus file (code_cost price bus site true))
      (jumped halfwords site file bus)

  form-is : (one : Meaning) (site : Site) (file : List ℕ) (bus : State)
      → effect_of_form price load store (form_of one) site file bus
      ≡ effect_of_meaning price load store one site file bus
  unfolding effect_of_form
  form-is (Arm operation) site file bus = arm-is operation site file bus
  form-is (NearLoad rd words) site file bus = refl
  form-is (NearAddress rd words) site file bus = refl
  form-is (BranchIf condition halfwords) site file bus = conditional-is condition halfwords site file bus
  form-is (Branch halfwords) site file bus = branch-is halfwords site file bus
  form-is (LinkHigh n11) site file bus = refl
  form-is (LinkLow n11) site file bus = refl

  pub half-is : (one : Option ThumbOp) (site : Site) (file : List ℕ) (bus : State)
      → effect_of_form price load store (form_of_half one) site file bus
      ≡ effect_of_half price load store one site file bus
  unfolding effect_of_half effect_of_form thumb_effect
  half-is None site file bus = quick-is None site file bus
  half-is (Some one) site file bus = form-is (meaning_of one) site file bus

-- ---- fields

either-fits : (test : Bool) (one other : ArmOp) → arm.Fits one → arm.Fits other → arm.Fits (if test then one else other)
either-fits true one other here there = here
either-fits false one other here there = there

processing-fits : (kind : ComputeOp) (rn rd : ℕ) (second : Operand) → rn < 16 → rd < 16
    → Within (operand_registers second) → Within (operand_immediates second) → arm.Fits (processing kind rn rd second)
processing-fits kind rn rd second n d r i = record { registers = (n, (d, r)); immediates = i; offsets = tt }

quiet-fits : (kind : ComputeOp) (rn rd : ℕ) (second : Operand) → rn < 16 → rd < 16
    → Within (operand_registers second) → Within (operand_immediates second)
    → arm.Fits (quiet_processing kind rn rd second)
quiet-fits kind rn rd second n d r i = record { registers = (n, (d, r)); immediates = i; offsets = tt }

comparison-fits : (kind : CompareOp) (rn : ℕ) (second : Operand) → rn < 16
    → Within (operand_registers second) → Within (operand_immediates second) → arm.Fits (comparison kind rn second)
comparison-fits kind rn second n r i = record { registers = (n, r); immediates = i; offsets = tt }

plain-registers : (register : ℕ) → register < 16 → Within (operand_registers (plain register))
plain-registers register r = (r, tt)

plain-immediates : (register : ℕ) → Within (operand_immediates (plain register))
plain-immediates register = (omega arith, tt)

small-immediates : (value : ℕ) → value < 256 → Within (operand_immediates (small_number value))
small-immediates value v = (omega arith, (v, tt))

words-immediates : (value : ℕ) → value < 256 → Within (operand_immediates (words_number value))
words-immediates value v = (omega arith, (v, tt))

wide : (number : ℕ) → number < 8 → number < 16
wide number n = omega arith

-- processing of two registers, of a register and a number
with-register : (kind : ComputeOp) (rn rd rs : ℕ) → rn < 16 → rd < 16 → rs < 16
    → arm.Fits (processing kind rn rd (plain rs))
with-register kind rn rd rs n d s =
    processing-fits kind rn rd (plain rs) n d (plain-registers rs s) (plain-immediates rs)

with-number : (kind : ComputeOp) (rn rd value : ℕ) → rn < 16 → rd < 16 → value < 256
    → arm.Fits (processing kind rn rd (small_number value))
with-number kind rn rd value n d v = processing-fits kind rn rd (small_number value) n d tt (small-immediates value v)

compare-register : (kind : CompareOp) (rn rs : ℕ) → rn < 16 → rs < 16 → arm.Fits (comparison kind rn (plain rs))
compare-register kind rn rs n s = comparison-fits kind rn (plain rs) n (plain-registers rs s) (plain-immediates rs)

add_or_subtract-fits : (i minus : Bool) (x3 rs rd : ℕ) → thumb.Fits (op.Format2 i minus x3 rs rd)
    → arm.Fits (add_or_subtract i minus x3 rs rd)
add_or_subtract-fits true minus x3 rs rd fits =
    with-number (if minus then Sub else Add) rs rd x3 (wide rs fits.registers.0) (wide rd fits.registers.1.0)
    (omega (arith, fits.immediates.0))
add_or_subtract-fits false minus x3 rs rd fits =
    with-register (if minus then Sub else Add) rs rd x3 (wide rs fits.registers.1.0) (wide rd fits.registers.1.1.0)
    (wide x3 fits.registers.0)

process_number-fits : (op rd n8 : ℕ) → rd < 16 → n8 < 256 → arm.Fits (process_number op rd n8)
process_number-fits op rd n8 d n =
    let zero : 0 < 16 = omega arith in
    either-fits (op == 0) _ _ (with-number Mov 0 rd n8 zero d n)
    (either-fits (op == 1) _ _ (comparison-fits Cmp rd (small_number n8) d tt (small-immediates n8 n))
    (either-fits (op == 2) _ _ (with-number Add rd rd n8 d d n) (with-number Sub rd rd n8 d d n)))

register-shift-fits : (kind : Shift) (rs rd : ℕ) → rs < 16 → rd < 16 → arm.Fits (shift_by_register kind rs rd)
register-shift-fits kind rs rd s d =
    let zero : 0 < 16 = omega arith in
    record { registers = (zero, (d, (d, (s, tt)))); immediates = tt; offsets = tt }

process_register-fits : (op rs rd : ℕ) → rs < 16 → rd < 16 → arm.Fits (process_register op rs rd)
process_register-fits op rs rd s d =
    let zero : 0 < 16 = omega arith in
    let few : 0 < 256 = omega arith in
    either-fits (op == 0) _ _ (with-register And rd rd rs d d s)
    (either-fits (op == 1) _ _ (with-register Eor rd rd rs d d s)
    (either-fits (op == 2) _ _ (register-shift-fits Lsl rs rd s d)
    (either-fits (op == 3) _ _ (register-shift-fits Lsr rs rd s d)
    (either-fits (op == 4) _ _ (register-shift-fits Asr rs rd s d)
    (either-fits (op == 5) _ _ (with-register Adc rd rd rs d d s)
    (either-fits (op == 6) _ _ (with-register Sbc rd rd rs d d s)
    (either-fits (op == 7) _ _ (register-shift-fits Ror rs rd s d)
    (either-fits (op == 8) _ _ (compare-register Tst rd rs d s)
    (either-fits (op == 9) _ _ (with-number Rsb rs rd 0 s d few)
    (either-fits (op == 10) _ _ (compare-register Cmp rd rs d s)
    (either-fits (op == 11) _ _ (compare-register Cmn rd rs d s)
    (either-fits (op == 12) _ _ (with-register Orr rd rd rs d d s)
    (either-fits (op == 13) _ _ (record { registers = (d, (zero, (d, (s, tt)))); immediates = tt; offsets = tt })
    (either-fits (op == 14) _ _ (with-register Bic rd rd rs d d s) (with-register Mvn 0 rd rs zero d s)))))))))))))))

full-fits : (h : Bool) (number : ℕ) → number < 8 → full_register h number < 16
full-fits true number n = omega arith
full-fits false number n = omega arith

process_full-fits : (op rs rd : ℕ) → rs < 16 → rd < 16 → arm.Fits (process_full_register op rs rd)
process_full-fits op rs rd s d =
    let zero : 0 < 16 = omega arith in
    either-fits (op == 0) _ _ (quiet-fits Add rd rd (plain rs) d d (plain-registers rs s) (plain-immediates rs))
    (either-fits (op == 1) _ _ (compare-register Cmp rd rs d s)
    (either-fits (op == 2) _ _ (quiet-fits Mov 0 rd (plain rs) zero d (plain-registers rs s) (plain-immediates rs))
    (record { registers = (s, tt); immediates = tt; offsets = tt })))

transfer-fits : (load byte : Bool) (rn rd : ℕ) (offset : TransferOffset) → rn < 16 → rd < 16
    → Within (transfer_registers offset) → Within (transfer_immediates offset) → Within (transfer_offsets offset)
    → arm.Fits (transfer load byte rn rd offset)
transfer-fits load byte rn rd offset n d r i o = record { registers = (n, (d, r)); immediates = i; offsets = o }

half-fits : (kind : HalfKind) (rn rd : ℕ) (offset : HalfOffset) → rn < 16 → rd < 16
    → Within (half_registers offset) → Within (half_offsets offset) → arm.Fits (half_transfer kind rn rd offset)
half-fits kind rn rd offset n d r o = record { registers = (n, (d, r)); immediates = tt; offsets = o }

scaled-fits : (b : Bool) (o5 : ℕ) → o5 < 32 → (if b then o5 else 4 * o5) < 4096
scaled-fits true o5 o = omega arith
scaled-fits false o5 o = omega arith

push_or_pop-fits : (l r : Bool) (list8 : ℕ) → list8 < 256 → arm.Fits (push_or_pop l r list8)
push_or_pop-fits true true list8 n =
    record { registers = (omega arith, tt); immediates = (omega arith, tt); offsets = tt }
push_or_pop-fits true false list8 n =
    record { registers = (omega arith, tt); immediates = (omega arith, tt); offsets = tt }
push_or_pop-fits false true list8 n =
    record { registers = (omega arith, tt); immediates = (omega arith, tt); offsets = tt }
push_or_pop-fits false false list8 n =
    record { registers = (omega arith, tt); immediates = (omega arith, tt); offsets = tt }

narrowed-fits : (one : Quick) → QuickFits one → FormFits (narrowed one)
narrowed-fits (quick.AddNumber rn rd value) fits = fits
narrowed-fits (quick.AddPlain rn rd rm) fits = fits
narrowed-fits (quick.MovPlain rn rd rm) fits = fits
narrowed-fits (quick.SetAddNumber rn rd value turned) fits = fits
narrowed-fits (quick.SetSubNumber rn rd value turned) fits = fits
narrowed-fits (quick.SetMovNumber rn rd value turned) fits = fits
narrowed-fits (quick.SetNumber Rsb rn rd value turned) fits = fits
narrowed-fits (quick.SetAddPlain rn rd rm) fits = fits
narrowed-fits (quick.SetSubPlain rn rd rm) fits = fits
narrowed-fits (quick.SetAndPlain rn rd rm) fits = fits
narrowed-fits (quick.SetEorPlain rn rd rm) fits = fits
narrowed-fits (quick.SetAdcPlain rn rd rm) fits = fits
narrowed-fits (quick.SetOrrPlain rn rd rm) fits = fits
narrowed-fits (quick.SetBicPlain rn rd rm) fits = fits
narrowed-fits (quick.SetMvnPlain rn rd rm) fits = fits
narrowed-fits (quick.SetMovShifted rn rd rm Lsl amount) fits = fits
narrowed-fits (quick.SetMovShifted rn rd rm Lsr amount) fits = fits
narrowed-fits (quick.CmpNumber rn value turned) fits = fits
narrowed-fits (quick.CmpPlain rn rm) fits = fits
narrowed-fits (quick.ComparePlain And rn rm) fits = fits
narrowed-fits (quick.LoadWord rn rd offset) fits = fits
narrowed-fits (quick.LoadByte rn rd offset) fits = fits
narrowed-fits (quick.StoreWord rn rd offset) fits = fits
narrowed-fits (quick.StoreByte rn rd offset) fits = fits
narrowed-fits (quick.Branch distance) fits = fits
narrowed-fits _ fits = fits

pub meaning-fits : (one : ThumbOp) → thumb.Fits one → MeaningFits (meaning_of one)
meaning-fits (op.Format1 op o5 rs rd) fits =
    let zero : 0 < 16 = omega arith in
    (record {
      registers = (zero, (wide rd fits.registers.1.0, (wide rs fits.registers.0, tt)));
      immediates = (fits.immediates.1.0, tt);
      offsets = tt;
    })
meaning-fits (op.Format2 i op x3 rs rd) fits =
    (add_or_subtract-fits i op x3 rs rd fits)
meaning-fits (op.Format3 op rd n8) fits =
    (process_number-fits op rd n8 (wide rd fits.registers.0) fits.immediates.1.0)
meaning-fits (op.Format4 op rs rd) fits =
    (process_register-fits op rs rd (wide rs fits.registers.0) (wide rd fits.registers.1.0))
meaning-fits (op.Format5 op h1 h2 rs rd) fits =
    (process_full-fits op (full_register h2 rs) (full_register h1 rd) (full-fits h2 rs fits.registers.0)
    (full-fits h1 rd fits.registers.1.0))
meaning-fits (op.Format6 rd n8) fits = (fits.registers.0, fits.offsets.0)
meaning-fits (op.Format7 l b ro rb rd) fits =
    (transfer-fits l b rb rd (transfer_offset.Shifted ro Lsl 0) (wide rb fits.registers.1.0)
    (wide rd fits.registers.1.1.0) (wide ro fits.registers.0, tt) (omega arith, tt) tt)
meaning-fits (op.Format8 h s ro rb rd) fits =
    (half-fits _ rb rd (half_offset.Plain ro) (wide rb fits.registers.1.0) (wide rd fits.registers.1.1.0)
    (wide ro fits.registers.0, tt) tt)
meaning-fits (op.Format9 b l o5 rb rd) fits =
    (transfer-fits l b rb rd (transfer_offset.Number (if b then o5 else 4 * o5)) (wide rb fits.registers.0)
    (wide rd fits.registers.1.0) tt tt (scaled-fits b o5 fits.offsets.0, tt))
meaning-fits (op.Format10 l o5 rb rd) fits =
    (half-fits _ rb rd (half_offset.Number (2 * o5)) (wide rb fits.registers.0) (wide rd fits.registers.1.0) tt
    (omega (arith, fits.offsets.0), tt))
meaning-fits (op.Format11 l rd n8) fits =
    (transfer-fits l false 13 rd (transfer_offset.Number (4 * n8)) (omega arith) (wide rd fits.registers.0) tt tt
    (omega (arith, fits.offsets.0), tt))
meaning-fits (op.Format12 false rd n8) fits = (fits.registers.0, fits.immediates.0)
meaning-fits (op.Format12 true rd n8) fits =
    (quiet-fits Add 13 rd (words_number n8) (omega arith) (wide rd fits.registers.0) tt
    (words-immediates n8 fits.immediates.0))
meaning-fits (op.Format13 s n7) fits =
    (quiet-fits (if s then Sub else Add) 13 13 (words_number n7) (omega arith) (omega arith) tt
    (words-immediates n7 (omega (arith, fits.immediates.0))))
meaning-fits (op.Format14 l r list8) fits =
    (push_or_pop-fits l r list8 fits.immediates.0)
meaning-fits (op.Format15 l rb list8) fits =
    (record {
      registers = (wide rb fits.registers.0, tt);
      immediates = (omega (arith, fits.immediates.0), tt);
      offsets = tt;
    })
meaning-fits (op.Format16 cond n8) fits = tt
meaning-fits (op.Format17 n8) fits =
    (record { registers = tt; immediates = (omega (arith, fits.immediates.0), tt); offsets = tt })
meaning-fits (op.Format18 n11) fits = tt
meaning-fits (op.Format19 false n11) fits = fits.offsets.0
meaning-fits (op.Format19 true n11) fits = fits.offsets.0

branch_form-fits : (condition : Condition) (distance : ℕ) → FormFits (branch_form condition distance)
branch_form-fits Equal distance = tt
branch_form-fits NotEqual distance = tt
branch_form-fits CarrySet distance = tt
branch_form-fits CarryClear distance = tt
branch_form-fits _ distance = tt

module _ (quick-fits : (one : Option ArmOp) → IfSome one arm.Fits → QuickFits (quick_of_word one)) where
  form-fits : (one : Meaning) → MeaningFits one → FormFits (form_of one)
  form-fits (Arm operation) fits = narrowed-fits (quick_of_word (Some operation)) (quick-fits (Some operation) fits)
  form-fits (NearLoad rd words) fits = fits
  form-fits (NearAddress rd words) fits = fits
  form-fits (BranchIf condition halfwords) fits = branch_form-fits condition (branch_distance halfwords)
  form-fits (Branch halfwords) fits = tt
  form-fits (LinkHigh n11) fits = fits
  form-fits (LinkLow n11) fits = fits

  option-fits : (one : Option ThumbOp) → IfSome one thumb.Fits → FormFits (form_of_half one)
  option-fits None fits = tt
  option-fits (Some one) fits = form-fits (meaning_of one) (meaning-fits one fits)

  pub half-form-fits : ((half : ℕ) → IfSome (operation half) thumb.Fits) → (half : ℕ)
      → FormFits (form_of_half (operation half))
  half-form-fits fits half = option-fits (operation half) (fits half)
