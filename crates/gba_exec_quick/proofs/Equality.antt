-- A quick form has the effect of its operation.
use Rattle.std.proofs.Common.{◌≡◌, ℕ, Bool, true, false, List, ◌+◌, ◌*◌, ◌%◌, ◌^◌, ◌==◌, not, refl, ap, ◌∙◌, arith, if◌then◌else◌}
use Rattle.std.specs.Int.{cast_unsigned, w32}
use Rattle.std.specs.Prelude.{Option, Some, None}
use Rattle.gba_terms.specs.Bits.{bit}
use Rattle.gba_word.specs.Shifts.{immediate_value, nonzero_shift, rotation}
use Rattle.gba_word.specs.declared.kinds.Shift.{Shift}
use Rattle.gba_word.specs.declared.kinds.Shift.TheVariants.{Lsl, Lsr, Asr, Ror}
use Rattle.gba_arm_table.specs.declared.operation.ArmOp.{ArmOp}
use Rattle.gba_arm_table.specs.declared.operation.ArmOp.TheVariants as op
use Rattle.gba_arm_table.specs.declared.operation.CompareOp.{CompareOp}
use Rattle.gba_arm_table.specs.declared.operation.Condition.{Condition}
use Rattle.gba_arm_table.specs.declared.operation.ComputeOp.{ComputeOp}
use Rattle.gba_arm_table.specs.declared.operation.ComputeOp.TheVariants.{And, Eor, Sub, Rsb, Add, Adc, Sbc, Rsc, Orr, Mov, Bic, Mvn}
use Rattle.gba_arm_table.specs.declared.operation.HalfKind.TheVariants.{StoreHalf, LoadHalf, LoadSignedByte, LoadSignedHalf}
use Rattle.gba_arm_table.specs.declared.operation.HalfOffset.TheVariants as half_offset
use Rattle.gba_arm_table.specs.declared.operation.Operand.{Operand}
use Rattle.gba_arm_table.specs.declared.operation.Operand.TheVariants as operand
use Rattle.gba_arm_table.specs.declared.operation.TransferOffset.TheVariants as transfer_offset
use Rattle.gba_bus.specs.Meanings.{Load, Price, Store}
use Rattle.gba_bus.specs.declared.width.Width.{Width}
use Rattle.gba_bus.specs.declared.width.Width.TheVariants as width
use Rattle.gba_psr.specs.RegisterFile.{flags, register, with_flags, with_register}
use Rattle.gba_psr.specs.declared.condition.Flags.{Flags}
use Rattle.gba_exec_registers.specs.Access.{code_cost, counter, late_counter, operand_register, refill_cost, with_result}
use Rattle.gba_exec_registers.specs.Branching.{after_branch}
use Rattle.gba_exec_registers.specs.Processing.{compute_op_of, flags_after, operand_of, outcome, outcome_of, with_outcome}
use Rattle.gba_exec_registers.specs.declared.site.Site.{Site}
use Rattle.gba_exec_transfers.specs.Done.{Done}
use Rattle.gba_exec_transfers.specs.Effects.{effect, effect_of_word, internal}
use Rattle.gba_exec_transfers.specs.Singles.{after_load, after_store, offset_address, transfer_address, transfer_distance, half_distance, unit_load, unit_store, with_transfer_base, with_write_back}
use Rattle.gba_exec_transfers.specs.Plain.{is_plain}
use Rattle.gba_exec_transfers.specs.declared.units.BlockTransfer.{BlockTransfer}
use Rattle.gba_exec_transfers.specs.declared.units.LoadUnit.{LoadUnit}
use Rattle.gba_exec_transfers.specs.declared.units.LoadUnit.TheVariants as unit
use Rattle.gba_exec_quick.specs.Effects.{after_quick_load, after_quick_store, effect_of_quick, outcome_in, value_of, with_flags_and}
use Rattle.gba_exec_quick.specs.Making.{block_form, compare_form, compare_number_form, compare_plain_form, compare_shifted, compute_form, compute_shifted, general_transfer, number_form, number_transfer, plain_form, plain_transfer, quick_of, quick_of_word, set_number_form, set_plain_form, set_shifted_form, signed_offset}
use Rattle.gba_exec_quick.specs.declared.quick.Quick.{Quick}
use Rattle.gba_exec_quick.specs.declared.quick.Quick.TheVariants as quick

-- ---- operands and results that aren't r15

operand-plain : (file : List ℕ) (counter number : ℕ) → (number == 15) ≡ false
    → register file number ≡ operand_register file counter number
unfolding operand_register
operand-plain file counter number n = rw n refl

result-plain : (file : List ℕ) (number value : ℕ) → (number == 15) ≡ false
    → with_register file number value ≡ with_result file number value
unfolding with_result
result-plain file number value n = rw n refl

cost-plain : (number : ℕ) (code : Bool → ℕ) → (number == 15) ≡ false
    → code true ≡ code true + 0 + refill_cost number code
cost-plain number code n = rw n (omega arith)

-- the carry doesn't count for the value
value-any : (kind : ComputeOp) (a b : ℕ) (carry : Bool) (now : Flags)
    → (outcome_of kind a b false now).value ≡ (outcome_of kind a b carry now).value
value-any And a b carry now = refl
value-any Eor a b carry now = refl
value-any Sub a b carry now = refl
value-any Rsb a b carry now = refl
value-any Add a b carry now = refl
value-any Adc a b carry now = refl
value-any Sbc a b carry now = refl
value-any Rsc a b carry now = refl
value-any Orr a b carry now = refl
value-any Mov a b carry now = refl
value-any Bic a b carry now = refl
value-any Mvn a b carry now = refl

compute-value : (kind : ComputeOp) (rn rd : ℕ) (file : List ℕ) (counter : ℕ) (second : ℕ × Bool) → (rn == 15) ≡ false
    → (rd == 15) ≡ false → with_register file rd (value_of kind (register file rn) second.0 file)
    ≡ with_outcome false rd (outcome_of kind (operand_register file counter rn) second.0 second.1 (flags file)) file
unfolding with_outcome
compute-value kind rn rd file counter second n d =
    ap (λ a. with_register file rd (value_of kind a second.0 file)) (operand-plain file counter rn n)
    ∙ ap (λ v. with_register file rd v)
    (value-any kind (operand_register file counter rn) second.0 second.1 (flags file))
    ∙ result-plain file rd (outcome_of kind (operand_register file counter rn) second.0 second.1 (flags file)).value d

set-outcome : (rd : ℕ) (file : List ℕ) (one : _) → (rd == 15) ≡ false
    → with_flags_and rd one file ≡ with_outcome true rd one file
unfolding with_outcome
set-outcome rd file one d = rw d (result-plain (with_flags file (flags_after one)) rd one.value d)

compute-set : (kind : ComputeOp) (rn rd : ℕ) (file : List ℕ) (counter : ℕ) (second : ℕ × Bool) → (rn == 15) ≡ false
    → (rd == 15) ≡ false → with_flags_and rd (outcome_in kind (register file rn) second.0 second.1 file) file
    ≡ with_outcome true rd (outcome_of kind (operand_register file counter rn) second.0 second.1 (flags file)) file
compute-set kind rn rd file counter second n d =
    ap (λ a. with_flags_and rd (outcome_in kind a second.0 second.1 file) file) (operand-plain file counter rn n)
    ∙ set-outcome rd file (outcome_of kind (operand_register file counter rn) second.0 second.1 (flags file)) d

compare-set : (kind : ComputeOp) (rn : ℕ) (file : List ℕ) (counter : ℕ) (second : ℕ × Bool) → (rn == 15) ≡ false
    → with_flags file (flags_after (outcome_in kind (register file rn) second.0 second.1 file))
    ≡ with_flags file (flags_after (outcome_of kind (operand_register file counter rn) second.0 second.1 (flags file)))
compare-set kind rn file counter second n =
    ap (λ a. with_flags file (flags_after (outcome_in kind a second.0 second.1 file))) (operand-plain file counter rn n)

-- ---- second operands

plain-operand : (rm amount counter : ℕ) (carry : Bool) (file : List ℕ) → (rm == 15) ≡ false → (amount == 0) ≡ true
    → (register file rm, carry) ≡ operand_of (operand.Fixed rm Lsl amount) counter carry file
unfolding operand_of operand_register
plain-operand rm amount counter carry file m a = rw (m, a) refl

shifted-operand : (rm : ℕ) (shift : Shift) (amount counter : ℕ) (carry : Bool) (file : List ℕ) → (rm == 15) ≡ false
    → (amount == 0) ≡ false
    → nonzero_shift shift (register file rm) amount ≡ operand_of (operand.Fixed rm shift amount) counter carry file
unfolding operand_of operand_register
shifted-operand rm shift amount counter carry file m a = rw (m, a) refl

turned-carry : (unturned : Bool) (one other : Bool)
    → (if not unturned then one else other) ≡ (if unturned then other else one)
turned-carry true one other = refl
turned-carry false one other = refl

module _ {State : Type 0} (price : Price State) (load : Load State) (store : Store State) where
  same-internal : (bus : State) (file file' : List ℕ) (cycles cycles' : ℕ) → file ≡ file' → cycles ≡ cycles'
      → internal price load store bus file cycles ≡ internal price load store bus file' cycles'
  same-internal bus file file' cycles cycles' e c = rw (e, c) refl

  other-is : (one : Quick) (whole : ArmOp) (site : Site) (file : List ℕ) (bus : State) → one ≡ quick.Other whole
      → effect_of_quick price load store one site file bus ≡ effect price load store whole site file bus
  unfolding effect_of_quick
  other-is one whole site file bus e = ap (λ q. effect_of_quick price load store q site file bus) e

  same-done : (file file' : List ℕ) (bus : State) (cycles cycles' : ℕ) → file ≡ file' → cycles ≡ cycles'
      → internal price load store bus file cycles ≡ internal price load store bus file' cycles'
  same-done file file' bus cycles cycles' e c = rw (e, c) refl

  -- ---- data processing that writes Rd

  number-value : (cond : Condition) (kind : ComputeOp) (rn rd value turn : ℕ) (site : Site) (file : List ℕ)
      (bus : State) → (rn == 15) ≡ false → (rd == 15) ≡ false
      → effect_of_quick price load store (quick.Number kind rn rd (rotation value (2 * turn))) site file bus
      ≡ effect price load store (op.Compute cond kind false rn rd (operand.Immediate value turn)) site file bus
  unfolding effect_of_quick effect outcome operand_of
  number-value cond kind rn rd value turn site file bus n d =
      same-internal bus _ _ _ _
      (compute-value kind rn rd file (counter site) (immediate_value value turn (flags file).carry) n d)
      (cost-plain rd (code_cost price bus site) d)

  number_form-is : (kind : ComputeOp) (rn rd value : ℕ) (site : Site) (file : List ℕ) (bus : State)
      → effect_of_quick price load store (number_form kind rn rd value) site file bus
      ≡ effect_of_quick price load store (quick.Number kind rn rd value) site file bus
  unfolding effect_of_quick
  number_form-is And rn rd value site file bus = refl
  number_form-is Eor rn rd value site file bus = refl
  number_form-is Sub rn rd value site file bus = refl
  number_form-is Rsb rn rd value site file bus = refl
  number_form-is Add rn rd value site file bus = refl
  number_form-is Adc rn rd value site file bus = refl
  number_form-is Sbc rn rd value site file bus = refl
  number_form-is Rsc rn rd value site file bus = refl
  number_form-is Orr rn rd value site file bus = refl
  number_form-is Mov rn rd value site file bus = refl
  number_form-is Bic rn rd value site file bus = refl
  number_form-is Mvn rn rd value site file bus = refl

  plain_form-is : (kind : ComputeOp) (rn rd rm : ℕ) (site : Site) (file : List ℕ) (bus : State)
      → effect_of_quick price load store (plain_form kind rn rd rm) site file bus
      ≡ effect_of_quick price load store (quick.Plain kind rn rd rm) site file bus
  unfolding effect_of_quick
  plain_form-is And rn rd rm site file bus = refl
  plain_form-is Eor rn rd rm site file bus = refl
  plain_form-is Sub rn rd rm site file bus = refl
  plain_form-is Rsb rn rd rm site file bus = refl
  plain_form-is Add rn rd rm site file bus = refl
  plain_form-is Adc rn rd rm site file bus = refl
  plain_form-is Sbc rn rd rm site file bus = refl
  plain_form-is Rsc rn rd rm site file bus = refl
  plain_form-is Orr rn rd rm site file bus = refl
  plain_form-is Mov rn rd rm site file bus = refl
  plain_form-is Bic rn rd rm site file bus = refl
  plain_form-is Mvn rn rd rm site file bus = refl

  set_number_form-is : (kind : ComputeOp) (rn rd value : ℕ) (turned : Bool) (site : Site) (file : List ℕ) (bus : State)
      → effect_of_quick price load store (set_number_form kind rn rd value turned) site file bus
      ≡ effect_of_quick price load store (quick.SetNumber kind rn rd value turned) site file bus
  unfolding effect_of_quick
  set_number_form-is Add rn rd value turned site file bus = refl
  set_number_form-is kind rn rd value turned site file bus = refl

  set_plain_form-is : (kind : ComputeOp) (rn rd rm : ℕ) (site : Site) (file : List ℕ) (bus : State)
      → effect_of_quick price load store (set_plain_form kind rn rd rm) site file bus
      ≡ effect_of_quick price load store (quick.SetPlain kind rn rd rm) site file bus
  unfolding effect_of_quick
  set_plain_form-is Add rn rd rm site file bus = refl
  set_plain_form-is kind rn rd rm site file bus = refl

  set_shifted_form-is : (kind : ComputeOp) (rn rd rm : ℕ) (shift : Shift) (amount : ℕ) (site : Site) (file : List ℕ)
      (bus : State) → effect_of_quick price load store (set_shifted_form kind rn rd rm shift amount) site file bus
      ≡ effect_of_quick price load store (quick.SetShifted kind rn rd rm shift amount) site file bus
  unfolding effect_of_quick
  set_shifted_form-is Mov rn rd rm shift amount site file bus = refl
  set_shifted_form-is kind rn rd rm shift amount site file bus = refl

  compare_number_form-is : (kind : ComputeOp) (rn value : ℕ) (turned : Bool) (site : Site) (file : List ℕ) (bus : State)
      → effect_of_quick price load store (compare_number_form kind rn value turned) site file bus
      ≡ effect_of_quick price load store (quick.CompareNumber kind rn value turned) site file bus
  unfolding effect_of_quick
  compare_number_form-is Sub rn value turned site file bus = refl
  compare_number_form-is kind rn value turned site file bus = refl

  compare_plain_form-is : (kind : ComputeOp) (rn rm : ℕ) (site : Site) (file : List ℕ) (bus : State)
      → effect_of_quick price load store (compare_plain_form kind rn rm) site file bus
      ≡ effect_of_quick price load store (quick.ComparePlain kind rn rm) site file bus
  unfolding effect_of_quick
  compare_plain_form-is Sub rn rm site file bus = refl
  compare_plain_form-is kind rn rm site file bus = refl

  number-set : (cond : Condition) (kind : ComputeOp) (rn rd value turn : ℕ) (site : Site) (file : List ℕ) (bus : State)
      → (rn == 15) ≡ false → (rd == 15) ≡ false
      → effect_of_quick price load store (quick.SetNumber kind rn rd (rotation value (2 * turn)) (not (turn == 0))) site
      file bus
      ≡ effect price load store (op.Compute cond kind true rn rd (operand.Immediate value turn)) site file bus
  unfolding effect_of_quick effect outcome operand_of
  number-set cond kind rn rd value turn site file bus n d =
      let word = rotation value (2 * turn) in
      same-internal bus _ _ _ _
      (ap (λ carry. with_flags_and rd (outcome_in kind (register file rn) word carry file) file)
      (turned-carry (turn == 0) (bit word 31) (flags file).carry)
      ∙ compute-set kind rn rd file (counter site) (immediate_value value turn (flags file).carry) n d)
      (cost-plain rd (code_cost price bus site) d)

  fixed-value : (cond : Condition) (kind : ComputeOp) (rn rd rm : ℕ) (shift : Shift) (amount : ℕ) (second : ℕ × Bool)
      (site : Site) (file : List ℕ) (bus : State)
      → second ≡ operand_of (operand.Fixed rm shift amount) (counter site) (flags file).carry file
      → (rn == 15) ≡ false → (rd == 15) ≡ false
      → internal price load store bus (with_register file rd (value_of kind (register file rn) second.0 file))
      (code_cost price bus site true)
      ≡ effect price load store (op.Compute cond kind false rn rd (operand.Fixed rm shift amount)) site file bus
  unfolding effect outcome
  fixed-value cond kind rn rd rm shift amount second site file bus is n d =
      same-internal bus _ _ _ _
      (compute-value kind rn rd file (counter site) second n d
      ∙ ap (λ (s : ℕ × Bool). with_outcome false rd
      (outcome_of kind (operand_register file (counter site) rn) s.0 s.1 (flags file)) file) is)
      (cost-plain rd (code_cost price bus site) d)

  fixed-set : (cond : Condition) (kind : ComputeOp) (rn rd rm : ℕ) (shift : Shift) (amount : ℕ) (second : ℕ × Bool)
      (site : Site) (file : List ℕ) (bus : State)
      → second ≡ operand_of (operand.Fixed rm shift amount) (counter site) (flags file).carry file
      → (rn == 15) ≡ false → (rd == 15) ≡ false
      → internal price load store bus
      (with_flags_and rd (outcome_in kind (register file rn) second.0 second.1 file) file)
      (code_cost price bus site true)
      ≡ effect price load store (op.Compute cond kind true rn rd (operand.Fixed rm shift amount)) site file bus
  unfolding effect outcome
  fixed-set cond kind rn rd rm shift amount second site file bus is n d =
      same-internal bus _ _ _ _
      (compute-set kind rn rd file (counter site) second n d
      ∙ ap (λ (s : ℕ × Bool). with_outcome true rd
      (outcome_of kind (operand_register file (counter site) rn) s.0 s.1 (flags file)) file) is)
      (cost-plain rd (code_cost price bus site) d)

  -- each shape of a shifted register has its form
  form-effect : (one : Quick) (whole : ArmOp) (form : Quick) (site : Site) (file : List ℕ) (bus : State) → form ≡ one
      → effect_of_quick price load store one site file bus ≡ effect price load store whole site file bus
      → effect_of_quick price load store form site file bus ≡ effect price load store whole site file bus
  form-effect one whole form site file bus is same =
      ap (λ q. effect_of_quick price load store q site file bus) is ∙ same

  shifted-is : (cond : Condition) (kind : ComputeOp) (set : Bool) (rn rd rm : ℕ) (shift : Shift) (amount : ℕ)
      (site : Site) (file : List ℕ) (bus : State) → (rn == 15) ≡ false → (rd == 15) ≡ false
      → (m a : Bool) → (rm == 15) ≡ m → (amount == 0) ≡ a
      → effect_of_quick price load store
      (compute_shifted (op.Compute cond kind set rn rd (operand.Fixed rm shift amount)) kind set rn rd rm shift amount)
      site file bus
      ≡ effect price load store (op.Compute cond kind set rn rd (operand.Fixed rm shift amount)) site file bus
  unfolding effect_of_quick
  shifted-is cond kind set rn rd rm shift amount site file bus n d true a m' a' =
      other-is _ (op.Compute cond kind set rn rd (operand.Fixed rm shift amount)) site file bus (rw m' refl)
  shifted-is cond kind true rn rd rm Lsl amount site file bus n d false true m a =
      let whole = op.Compute cond kind true rn rd (operand.Fixed rm Lsl amount) in
      form-effect (set_plain_form kind rn rd rm) whole (compute_shifted whole kind true rn rd rm Lsl amount) site
      file bus (rw (m, a) refl)
      (set_plain_form-is kind rn rd rm site file bus
      ∙ fixed-set cond kind rn rd rm Lsl amount (register file rm, (flags file).carry) site file bus
      (plain-operand rm amount (counter site) (flags file).carry file m a) n d)
  shifted-is cond kind false rn rd rm Lsl amount site file bus n d false true m a =
      let whole = op.Compute cond kind false rn rd (operand.Fixed rm Lsl amount) in
      form-effect (plain_form kind rn rd rm) whole (compute_shifted whole kind false rn rd rm Lsl amount) site file bus
      (rw (m, a) refl)
      (plain_form-is kind rn rd rm site file bus
      ∙ fixed-value cond kind rn rd rm Lsl amount (register file rm, (flags file).carry) site file bus
      (plain-operand rm amount (counter site) (flags file).carry file m a) n d)
  shifted-is cond kind set rn rd rm Lsr amount site file bus n d false true m a =
      other-is _ (op.Compute cond kind set rn rd (operand.Fixed rm Lsr amount)) site file bus (rw (m, a) refl)
  shifted-is cond kind set rn rd rm Asr amount site file bus n d false true m a =
      other-is _ (op.Compute cond kind set rn rd (operand.Fixed rm Asr amount)) site file bus (rw (m, a) refl)
  shifted-is cond kind set rn rd rm Ror amount site file bus n d false true m a =
      other-is _ (op.Compute cond kind set rn rd (operand.Fixed rm Ror amount)) site file bus (rw (m, a) refl)
  shifted-is cond kind true rn rd rm shift amount site file bus n d false false m a =
      let whole = op.Compute cond kind true rn rd (operand.Fixed rm shift amount) in
      form-effect (set_shifted_form kind rn rd rm shift amount) whole
      (compute_shifted whole kind true rn rd rm shift amount) site file bus (rw (m, a) refl)
      (set_shifted_form-is kind rn rd rm shift amount site file bus
      ∙ fixed-set cond kind rn rd rm shift amount (nonzero_shift shift (register file rm) amount) site file bus
      (shifted-operand rm shift amount (counter site) (flags file).carry file m a) n d)
  shifted-is cond kind false rn rd rm shift amount site file bus n d false false m a =
      let whole = op.Compute cond kind false rn rd (operand.Fixed rm shift amount) in
      form-effect (quick.Shifted kind rn rd rm shift amount) whole
      (compute_shifted whole kind false rn rd rm shift amount) site file bus (rw (m, a) refl)
      (fixed-value cond kind rn rd rm shift amount (nonzero_shift shift (register file rm) amount) site file bus
      (shifted-operand rm shift amount (counter site) (flags file).carry file m a) n d)

  compute-is : (cond : Condition) (kind : ComputeOp) (set : Bool) (rn rd : ℕ) (second : Operand) (site : Site)
      (file : List ℕ) (bus : State) → (rn == 15) ≡ false → (rd == 15) ≡ false
      → effect_of_quick price load store (compute_form (op.Compute cond kind set rn rd second) kind set rn rd second)
      site file bus
      ≡ effect price load store (op.Compute cond kind set rn rd second) site file bus
  compute-is cond kind true rn rd (operand.Immediate value turn) site file bus n d =
      set_number_form-is kind rn rd (rotation value (2 * turn)) (not (turn == 0)) site file bus
      ∙ number-set cond kind rn rd value turn site file bus n d
  compute-is cond kind false rn rd (operand.Immediate value turn) site file bus n d =
      number_form-is kind rn rd (rotation value (2 * turn)) site file bus
      ∙ number-value cond kind rn rd value turn site file bus n d
  compute-is cond kind set rn rd (operand.Fixed rm shift amount) site file bus n d =
      shifted-is cond kind set rn rd rm shift amount site file bus n d (rm == 15) (amount == 0) refl refl
  compute-is cond kind set rn rd (operand.ByRegister rm shift rs) site file bus n d =
      other-is _ (op.Compute cond kind set rn rd (operand.ByRegister rm shift rs)) site file bus refl

  compute-tested : (cond : Condition) (kind : ComputeOp) (set : Bool) (rn rd : ℕ) (second : Operand) (site : Site)
      (file : List ℕ) (bus : State) (n d : Bool) → (rn == 15) ≡ n → (rd == 15) ≡ d
      → effect_of_quick price load store (quick_of (op.Compute cond kind set rn rd second)) site file bus
      ≡ effect price load store (op.Compute cond kind set rn rd second) site file bus
  unfolding quick_of
  compute-tested cond kind set rn rd second site file bus true d n' d' =
      other-is _ (op.Compute cond kind set rn rd second) site file bus (rw n' refl)
  compute-tested cond kind set rn rd second site file bus false true n d =
      other-is _ (op.Compute cond kind set rn rd second) site file bus (rw (n, d) refl)
  compute-tested cond kind set rn rd second site file bus false false n d =
      form-effect (compute_form (op.Compute cond kind set rn rd second) kind set rn rd second) _ _ site file bus
      (rw (n, d) refl) (compute-is cond kind set rn rd second site file bus n d)

  -- ---- data processing that writes the flags alone

  cost-compare : (bus : State) (site : Site) → code_cost price bus site true ≡ code_cost price bus site true + 0
  cost-compare bus site = omega arith

  fixed-compare : (cond : Condition) (kind : CompareOp) (rn rm : ℕ) (shift : Shift) (amount : ℕ) (second : ℕ × Bool)
      (site : Site) (file : List ℕ) (bus : State)
      → second ≡ operand_of (operand.Fixed rm shift amount) (counter site) (flags file).carry file
      → (rn == 15) ≡ false
      → internal price load store bus
      (with_flags file (flags_after (outcome_in (compute_op_of kind) (register file rn) second.0 second.1 file)))
      (code_cost price bus site true)
      ≡ effect price load store (op.Compare cond kind rn (operand.Fixed rm shift amount)) site file bus
  unfolding effect outcome
  fixed-compare cond kind rn rm shift amount second site file bus is n =
      same-internal bus _ _ _ _
      (compare-set (compute_op_of kind) rn file (counter site) second n
      ∙ ap (λ (s : ℕ × Bool). with_flags file
      (flags_after (outcome_of (compute_op_of kind) (operand_register file (counter site) rn) s.0 s.1 (flags file))))
      is)
      (cost-compare bus site)

  number-compare : (cond : Condition) (kind : CompareOp) (rn value turn : ℕ) (site : Site) (file : List ℕ) (bus : State)
      → (rn == 15) ≡ false
      → effect_of_quick price load store
      (quick.CompareNumber (compute_op_of kind) rn (rotation value (2 * turn)) (not (turn == 0))) site file bus
      ≡ effect price load store (op.Compare cond kind rn (operand.Immediate value turn)) site file bus
  unfolding effect_of_quick effect outcome operand_of
  number-compare cond kind rn value turn site file bus n =
      let word = rotation value (2 * turn) in
      same-internal bus _ _ _ _
      (ap (λ carry. with_flags file (flags_after (outcome_in (compute_op_of kind) (register file rn) word carry file)))
      (turned-carry (turn == 0) (bit word 31) (flags file).carry)
      ∙ compare-set (compute_op_of kind) rn file (counter site) (immediate_value value turn (flags file).carry) n)
      (cost-compare bus site)

  compare_shifted-is : (cond : Condition) (kind : CompareOp) (rn rm : ℕ) (shift : Shift) (amount : ℕ) (site : Site)
      (file : List ℕ) (bus : State) → (rn == 15) ≡ false
      → (m a : Bool) → (rm == 15) ≡ m → (amount == 0) ≡ a
      → effect_of_quick price load store
      (compare_shifted (op.Compare cond kind rn (operand.Fixed rm shift amount)) (compute_op_of kind) rn rm
      shift amount)
      site file bus
      ≡ effect price load store (op.Compare cond kind rn (operand.Fixed rm shift amount)) site file bus
  unfolding effect_of_quick
  compare_shifted-is cond kind rn rm shift amount site file bus n true a m' a' =
      other-is _ (op.Compare cond kind rn (operand.Fixed rm shift amount)) site file bus (rw m' refl)
  compare_shifted-is cond kind rn rm Lsl amount site file bus n false true m a =
      let whole = op.Compare cond kind rn (operand.Fixed rm Lsl amount) in
      form-effect (compare_plain_form (compute_op_of kind) rn rm) whole
      (compare_shifted whole (compute_op_of kind) rn rm Lsl amount) site file bus (rw (m, a) refl)
      (compare_plain_form-is (compute_op_of kind) rn rm site file bus
      ∙ fixed-compare cond kind rn rm Lsl amount (register file rm, (flags file).carry) site file bus
      (plain-operand rm amount (counter site) (flags file).carry file m a) n)
  compare_shifted-is cond kind rn rm Lsr amount site file bus n false true m a =
      other-is _ (op.Compare cond kind rn (operand.Fixed rm Lsr amount)) site file bus (rw (m, a) refl)
  compare_shifted-is cond kind rn rm Asr amount site file bus n false true m a =
      other-is _ (op.Compare cond kind rn (operand.Fixed rm Asr amount)) site file bus (rw (m, a) refl)
  compare_shifted-is cond kind rn rm Ror amount site file bus n false true m a =
      other-is _ (op.Compare cond kind rn (operand.Fixed rm Ror amount)) site file bus (rw (m, a) refl)
  compare_shifted-is cond kind rn rm shift amount site file bus n false false m a =
      let whole = op.Compare cond kind rn (operand.Fixed rm shift amount) in
      form-effect (quick.CompareShifted (compute_op_of kind) rn rm shift amount) whole
      (compare_shifted whole (compute_op_of kind) rn rm shift amount) site file bus (rw (m, a) refl)
      (fixed-compare cond kind rn rm shift amount (nonzero_shift shift (register file rm) amount) site file bus
      (shifted-operand rm shift amount (counter site) (flags file).carry file m a) n)

  compare-is : (cond : Condition) (kind : CompareOp) (rn : ℕ) (second : Operand) (site : Site) (file : List ℕ)
      (bus : State) → (rn == 15) ≡ false
      → effect_of_quick price load store (compare_form (op.Compare cond kind rn second) (compute_op_of kind) rn second)
      site file bus
      ≡ effect price load store (op.Compare cond kind rn second) site file bus
  compare-is cond kind rn (operand.Immediate value turn) site file bus n =
      compare_number_form-is (compute_op_of kind) rn (rotation value (2 * turn)) (not (turn == 0)) site file bus
      ∙ number-compare cond kind rn value turn site file bus n
  compare-is cond kind rn (operand.Fixed rm shift amount) site file bus n =
      compare_shifted-is cond kind rn rm shift amount site file bus n (rm == 15) (amount == 0) refl refl
  compare-is cond kind rn (operand.ByRegister rm shift rs) site file bus n =
      other-is _ (op.Compare cond kind rn (operand.ByRegister rm shift rs)) site file bus refl

  compare-tested : (cond : Condition) (kind : CompareOp) (rn : ℕ) (second : Operand) (site : Site) (file : List ℕ)
      (bus : State) (n : Bool) → (rn == 15) ≡ n
      → effect_of_quick price load store (quick_of (op.Compare cond kind rn second)) site file bus
      ≡ effect price load store (op.Compare cond kind rn second) site file bus
  unfolding quick_of
  compare-tested cond kind rn second site file bus true n =
      other-is _ (op.Compare cond kind rn second) site file bus (rw n refl)
  compare-tested cond kind rn second site file bus false n =
      form-effect (compare_form (op.Compare cond kind rn second) (compute_op_of kind) rn second) _ _ site file bus
      (rw n refl) (compare-is cond kind rn second site file bus n)

  -- ---- transfers

  address-is : (up : Bool) (base distance : ℕ)
      → (base + signed_offset up distance) % 2 ^ 32 ≡ offset_address up base distance
  address-is true base distance = refl
  address-is false base distance = omega arith

  address-plain : (up : Bool) (rn distance : ℕ) (site : Site) (file : List ℕ) → (rn == 15) ≡ false
      → (register file rn + signed_offset up distance) % 2 ^ 32
      ≡ offset_address up (operand_register file (counter site) rn) distance
  address-plain up rn distance site file n =
      address-is up (register file rn) distance
      ∙ ap (λ base. offset_address up base distance) (operand-plain file (counter site) rn n)

  load-plain : (kind : LoadUnit) (up : Bool) (rn rd distance : ℕ) (site : Site) (file : List ℕ) (bus : State)
      → (rn == 15) ≡ false → (rd == 15) ≡ false
      → after_quick_load price load store kind rn rd (signed_offset up distance) site file bus
      ≡ after_load price load store kind
      (record { pre = true; up = up; write = false; rn = rn; rd = rd; distance = distance }) site file bus
  unfolding after_load with_transfer_base transfer_address with_write_back with_result
  load-plain kind up rn rd distance site file bus n d =
      let made : ℕ → Done State = λ address.
      let got = unit_load price load store kind site address bus in
      record {
        registers = with_register file rd got.value;
        bus = got.after;
        cycles = code_cost price bus site true + got.price + 1;
      } in
      let address = offset_address up (operand_register file (counter site) rn) distance in
      let got = unit_load price load store kind site address bus in
      let more : code_cost price bus site true + got.price + 1 ≡ code_cost price bus site true + got.price + 1 + 0 =
      omega arith in
      ap made (address-plain up rn distance site file n)
      ∙ rw d (same-done (with_register file rd got.value) (with_register file rd got.value) got.after _ _ refl more)

  store-plain : (kind : Width) (up : Bool) (rn rd distance : ℕ) (site : Site) (file : List ℕ) (bus : State)
      → (rn == 15) ≡ false → (rd == 15) ≡ false
      → after_quick_store price load store kind rn rd (signed_offset up distance) site file bus
      ≡ after_store price load store kind
      (record { pre = true; up = up; write = false; rn = rn; rd = rd; distance = distance }) site file bus
  unfolding after_store with_transfer_base transfer_address with_write_back
  store-plain kind up rn rd distance site file bus n d =
      let made : ℕ → ℕ → Done State = λ address value.
      let stored = unit_store price load store kind address value bus in
      record { registers = file; bus = stored.after; cycles = code_cost price bus site false + stored.price } in
      ap (λ address. made address (register file rd)) (address-plain up rn distance site file n)
      ∙ ap (made (offset_address up (operand_register file (counter site) rn) distance))
      (operand-plain file (late_counter site) rd d)

  plain-is : (cond : Condition) (load' byte up : Bool) (rn rd distance : ℕ) (site : Site) (file : List ℕ) (bus : State)
      → (rn == 15) ≡ false → (rd == 15) ≡ false
      → effect_of_quick price load store (plain_transfer load' byte rn rd (signed_offset up distance)) site file bus
      ≡ effect price load store (op.Transfer cond load' byte true up false rn rd (transfer_offset.Number distance)) site
      file bus
  unfolding effect_of_quick effect transfer_distance
  plain-is cond true true up rn rd distance site file bus n d = load-plain unit.Byte up rn rd distance site file bus n d
  plain-is cond true false up rn rd distance site file bus n d =
      load-plain unit.Word up rn rd distance site file bus n d
  plain-is cond false true up rn rd distance site file bus n d =
      store-plain width.Byte up rn rd distance site file bus n d
  plain-is cond false false up rn rd distance site file bus n d =
      store-plain width.Word up rn rd distance site file bus n d

  general-is : (cond : Condition) (load' byte pre up write : Bool) (rn rd distance : ℕ) (site : Site) (file : List ℕ)
      (bus : State) → effect_of_quick price load store
      (general_transfer load' byte
      (record { pre = pre; up = up; write = write; rn = rn; rd = rd; distance = distance })) site file bus
      ≡ effect price load store (op.Transfer cond load' byte pre up write rn rd (transfer_offset.Number distance)) site
      file bus
  unfolding effect_of_quick effect transfer_distance
  general-is cond true byte pre up write rn rd distance site file bus = refl
  general-is cond false byte pre up write rn rd distance site file bus = refl

  transfer-tested : (cond : Condition) (load' byte pre up write : Bool) (rn rd distance : ℕ) (site : Site)
      (file : List ℕ) (bus : State) (n d : Bool) → (rn == 15) ≡ n → (rd == 15) ≡ d
      → effect_of_quick price load store
      (number_transfer load' byte
      (record { pre = pre; up = up; write = write; rn = rn; rd = rd; distance = distance })) site file bus
      ≡ effect price load store (op.Transfer cond load' byte pre up write rn rd (transfer_offset.Number distance)) site
      file bus
  transfer-tested cond load' byte false up write rn rd distance site file bus n d n' d' =
      general-is cond load' byte false up write rn rd distance site file bus
  transfer-tested cond load' byte true up true rn rd distance site file bus n d n' d' =
      general-is cond load' byte true up true rn rd distance site file bus
  transfer-tested cond load' byte true up false rn rd distance site file bus true d n' d' =
      form-effect _ _ _ site file bus (rw n' refl)
      (general-is cond load' byte true up false rn rd distance site file bus)
  transfer-tested cond load' byte true up false rn rd distance site file bus false true n d =
      form-effect _ _ _ site file bus (rw (n, d) refl)
      (general-is cond load' byte true up false rn rd distance site file bus)
  transfer-tested cond load' byte true up false rn rd distance site file bus false false n d =
      form-effect _ _ _ site file bus (rw (n, d) refl) (plain-is cond load' byte up rn rd distance site file bus n d)

  -- ---- blocks

  block-tested : (cond : Condition) (load' : Bool) (block : BlockTransfer) (site : Site) (file : List ℕ) (bus : State)
      (plain : Bool) → is_plain block ≡ plain
      → effect_of_quick price load store (block_form load' block) site file bus
      ≡ effect price load store
      (op.Block cond load' block.pre block.up block.user block.write block.rn block.list) site file bus
  unfolding effect_of_quick effect
  block-tested cond true block site file bus true is = rw is refl
  block-tested cond false block site file bus true is = rw is refl
  block-tested cond true block site file bus false is = rw is refl
  block-tested cond false block site file bus false is = rw is refl

  -- ---- branches

  branch-target : (at distance : ℕ) → (at + distance % 2 ^ 32) % 2 ^ 32 ≡ (at + distance) % 2 ^ 32
  branch-target at distance = omega arith

  -- ---- every operation

  quick_of-is : (whole : ArmOp) (site : Site) (file : List ℕ) (bus : State)
      → effect_of_quick price load store (quick_of whole) site file bus ≡ effect price load store whole site file bus
  unfolding quick_of effect_of_quick effect half_distance transfer_distance after_branch
  quick_of-is (op.Compute cond kind set rn rd second) site file bus =
      compute-tested cond kind set rn rd second site file bus (rn == 15) (rd == 15) refl refl
  quick_of-is (op.Compare cond kind rn second) site file bus =
      compare-tested cond kind rn second site file bus (rn == 15) refl
  quick_of-is (op.Transfer cond load' byte pre up write rn rd (transfer_offset.Number distance)) site file bus =
      transfer-tested cond load' byte pre up write rn rd distance site file bus (rn == 15) (rd == 15) refl refl
  quick_of-is (op.Transfer cond load' byte pre up write rn rd (transfer_offset.Shifted rm kind amount)) site file bus =
      refl
  quick_of-is (op.Half cond StoreHalf pre up write rn rd (half_offset.Number distance)) site file bus = refl
  quick_of-is (op.Half cond LoadHalf pre up write rn rd (half_offset.Number distance)) site file bus = refl
  quick_of-is (op.Half cond LoadSignedByte pre up write rn rd (half_offset.Number distance)) site file bus = refl
  quick_of-is (op.Half cond LoadSignedHalf pre up write rn rd (half_offset.Number distance)) site file bus = refl
  quick_of-is (op.Half cond kind pre up write rn rd (half_offset.Plain rm)) site file bus = refl
  quick_of-is (op.Block cond load' pre up user write rn list) site file bus =
      let block : BlockTransfer = record { pre = pre; up = up; user = user; write = write; rn = rn; list = list } in
      block-tested cond load' block site file bus (is_plain block) refl
  quick_of-is (op.Branch cond true offset) site file bus =
      rw (branch-target (counter site) (4 * cast_unsigned w32 offset)) refl
  quick_of-is (op.Branch cond false offset) site file bus =
      rw (branch-target (counter site) (4 * cast_unsigned w32 offset)) refl
  quick_of-is (op.Exchange cond rm) site file bus = refl
  quick_of-is (op.Multiply cond accumulate set rd rn rs rm) site file bus = refl
  quick_of-is (op.MultiplyLong cond signed accumulate set hi lo rs rm) site file bus = refl
  quick_of-is (op.Swap cond byte rn rd rm) site file bus = refl
  quick_of-is (op.ReadStatus cond saved rd) site file bus = refl
  quick_of-is (op.WriteStatus cond saved fields source) site file bus = refl
  quick_of-is (op.Interrupt cond comment) site file bus = refl

  pub quick_of_word-is : (one : Option ArmOp) (site : Site) (file : List ℕ) (bus : State)
      → effect_of_quick price load store (quick_of_word one) site file bus
      ≡ effect_of_word price load store one site file bus
  unfolding effect_of_quick effect_of_word
  quick_of_word-is None site file bus = refl
  quick_of_word-is (Some whole) site file bus = quick_of-is whole site file bus
