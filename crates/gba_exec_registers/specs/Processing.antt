use Rattle.std.specs.Prelude.{ℕ, Bool, true, false, List, ◌&&◌, ◌+◌, ◌-◌, ◌^◌, ◌==◌, bit_and, bit_or, bit_xor, if◌then◌else◌}
use Rattle.gba_terms.specs.Bits.{bit, field}
use Rattle.gba_word.specs.Shifts.{register_shift, fixed_shift, immediate_value}
use Rattle.gba_word.specs.Sums.{sum_of}
use Rattle.gba_arm_table.specs.declared.operation.CompareOp.{CompareOp}
use Rattle.gba_arm_table.specs.declared.operation.CompareOp.TheVariants.{Tst, Teq, Cmp, Cmn}
use Rattle.gba_arm_table.specs.declared.operation.ComputeOp.{ComputeOp}
use Rattle.gba_arm_table.specs.declared.operation.ComputeOp.TheVariants.{And, Eor, Sub, Rsb, Add, Adc, Sbc, Rsc, Orr, Mov, Bic, Mvn}
use Rattle.gba_arm_table.specs.declared.operation.Operand.{Operand}
use Rattle.gba_arm_table.specs.declared.operation.Operand.TheVariants.{Immediate, Fixed, ByRegister}
use Rattle.gba_psr.specs.Entry.{after_leave}
use Rattle.gba_psr.specs.RegisterFile.{flags, with_flags}
use Rattle.gba_psr.specs.declared.condition.Flags.{Flags}
use Rattle.gba_exec_registers.specs.Access.{counter, late_counter, operand_register, after_jump, with_result, refill_cost}
use Rattle.gba_exec_registers.specs.declared.outcome.Outcome.{Outcome}
use Rattle.gba_exec_registers.specs.declared.site.Site.{Site}

-- what r15 reads as beside this operand
abbrev pub operand_counter : Operand → Site → ℕ
operand_counter (Immediate value turn) site = counter site
operand_counter (Fixed rm kind amount) site = counter site
operand_counter (ByRegister rm kind rs) site = late_counter site

-- the shifter operand: its value and the carry out (ARM Architecture Reference Manual, A5.1)
unfoldable pub operand_of : Operand → ℕ → Bool → List ℕ → ℕ × Bool
operand_of (Immediate value turn) counter carry file = immediate_value value turn carry
operand_of (Fixed rm kind amount) counter carry file =
    fixed_shift kind (operand_register file counter rm) amount carry
operand_of (ByRegister rm kind rs) counter carry file =
    register_shift kind (operand_register file counter rm) (field (operand_register file counter rs) 0 8) carry

-- all bits turned round
abbrev pub complement : ℕ → ℕ
complement value = 2 ^ 32 - 1 - value

-- a logical result: the carry is the shifter's, the overflow stays (ARM Architecture Reference Manual, A3.4)
abbrev pub logical_outcome : ℕ → Bool → Flags → Outcome
logical_outcome value carry flags = record { value = value; carry = carry; overflow = flags.overflow }

-- an arithmetic result: a + b + c with its carry and overflow
abbrev pub sum_outcome : ℕ → ℕ → Bool → Outcome
sum_outcome a b carry =
    let sum = sum_of a b carry in record { value = sum.value; carry = sum.carry; overflow = sum.overflow }

-- The twelve operations that give a result, of Rn, the operand, its carry and the flags. A difference a - b is
-- a + complement b + 1, and its carry is 1 where there is no borrow (ARM Architecture Reference Manual, A4.1).
abbrev pub outcome_of : ComputeOp → ℕ → ℕ → Bool → Flags → Outcome
outcome_of And a b carry flags = logical_outcome (bit_and a b) carry flags
outcome_of Eor a b carry flags = logical_outcome (bit_xor a b) carry flags
outcome_of Sub a b carry flags = sum_outcome a (complement b) true
outcome_of Rsb a b carry flags = sum_outcome b (complement a) true
outcome_of Add a b carry flags = sum_outcome a b false
outcome_of Adc a b carry flags = sum_outcome a b flags.carry
outcome_of Sbc a b carry flags = sum_outcome a (complement b) flags.carry
outcome_of Rsc a b carry flags = sum_outcome b (complement a) flags.carry
outcome_of Orr a b carry flags = logical_outcome (bit_or a b) carry flags
outcome_of Mov a b carry flags = logical_outcome b carry flags
outcome_of Bic a b carry flags = logical_outcome (bit_and a (complement b)) carry flags
outcome_of Mvn a b carry flags = logical_outcome (complement b) carry flags

-- the operation of which a comparison makes the flags (ARM Architecture Reference Manual, A4.1)
abbrev pub compute_op_of : CompareOp → ComputeOp
compute_op_of Tst = And
compute_op_of Teq = Eor
compute_op_of Cmp = Sub
compute_op_of Cmn = Add

-- the flags of a result (ARM Architecture Reference Manual, A3.4)
abbrev pub flags_after : Outcome → Flags
flags_after outcome =
    record {
      negative = bit outcome.value 31;
      zero = outcome.value == 0;
      carry = outcome.carry;
      overflow = outcome.overflow;
    }

-- the outcome of an operation in a register file
unfoldable pub outcome : ComputeOp → ℕ → Operand → Site → List ℕ → Outcome
outcome op rn operand site file =
    let r15 = operand_counter operand site in
    let second = operand_of operand r15 (flags file).carry file in
    outcome_of op (operand_register file r15 rn) second.0 second.1 (flags file)

-- The file after an operation that writes Rd. With S the flags are made, but with S and r15 CPSR takes the SPSR and
-- then the jump is made (ARM Architecture Reference Manual, A4.1).
unfoldable pub with_outcome : Bool → ℕ → Outcome → List ℕ → List ℕ
with_outcome set rd outcome file =
    if set && rd == 15 then after_jump (after_leave file) outcome.value
    else if set then with_result (with_flags file (flags_after outcome)) rd outcome.value
    else with_result file rd outcome.value

-- data processing that writes Rd
abbrev pub after_compute : ComputeOp → Bool → ℕ → ℕ → Operand → Site → List ℕ → List ℕ
after_compute op set rn rd operand site file = with_outcome set rd (outcome op rn operand site file) file

-- data processing that writes the flags alone
abbrev pub after_compare : CompareOp → ℕ → Operand → Site → List ℕ → List ℕ
after_compare op rn operand site file = with_flags file (flags_after (outcome (compute_op_of op) rn operand site file))

-- one cycle more where the amount of shift is a register
abbrev pub shift_cost : Operand → ℕ
shift_cost (Immediate value turn) = 0
shift_cost (Fixed rm kind amount) = 0
shift_cost (ByRegister rm kind rs) = 1

-- 1S, the shift's cycle, and 1S + 1N where r15 is written (ARM7TDMI Technical Reference Manual, data operations)
abbrev pub compute_cost : ℕ → Operand → (Bool → ℕ) → ℕ
compute_cost rd operand code = code true + shift_cost operand + refill_cost rd code

abbrev pub compare_cost : Operand → (Bool → ℕ) → ℕ
compare_cost operand code = code true + shift_cost operand
