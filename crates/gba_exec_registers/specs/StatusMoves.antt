use Rattle.std.specs.Prelude.{ℕ, Bool, true, false, not, List, ◌&&◌, ◌+◌, ◌*◌, ◌^◌, ◌==◌, if◌then◌else◌}
use Rattle.gba_terms.specs.Bits.{bit, field}
use Rattle.gba_word.specs.Shifts.{immediate_value}
use Rattle.gba_arm_table.specs.declared.operation.Source.{Source}
use Rattle.gba_arm_table.specs.declared.operation.Source.TheVariants.{Immediate, Plain}
use Rattle.gba_psr.specs.RegisterFile.{status, mode, saved_status, with_status, with_saved_status}
use Rattle.gba_exec_registers.specs.Access.{counter, operand_register, with_result, refill_cost}
use Rattle.gba_exec_registers.specs.declared.site.Site.{Site}

-- MRS: Rd takes CPSR or the SPSR (ARM Architecture Reference Manual, A4.1)
abbrev pub after_read_status : Bool → ℕ → List ℕ → List ℕ
after_read_status saved rd file = with_result file rd (if saved then saved_status file else status file)

abbrev pub read_status_cost : ℕ → (Bool → ℕ) → ℕ
read_status_cost rd code = code true + refill_cost rd code

-- what MSR writes: a turned byte or a register
unfoldable pub source_of : Source → Site → List ℕ → ℕ
source_of (Immediate value turn) site file = (immediate_value value turn false).0
source_of (Plain rm) site file = operand_register file (counter site) rm

-- bits 31 to 28, written where bit 3 of the fields is set
abbrev pub flag_field : ℕ → ℕ → ℕ → ℕ
flag_field fields old value = if bit fields 3 then field value 28 4 else field old 28 4

-- Bits 7 to 0 of CPSR, written where bit 0 of the fields is set, but never in USR; T, bit 5, never changes
-- (ARM Architecture Reference Manual, A4.1; that T stays is this project's profile).
abbrev pub control_field : ℕ → Bool → ℕ → ℕ → ℕ
control_field fields user old value =
    if bit fields 0 && not user then field value 6 2 * 2 ^ 6 + field old 5 1 * 2 ^ 5 + field value 0 5
    else field old 0 8

-- bits 7 to 0 of an SPSR, written where bit 0 of the fields is set
abbrev pub saved_control_field : ℕ → ℕ → ℕ → ℕ
saved_control_field fields old value = if bit fields 0 then field value 0 8 else field old 0 8

-- MSR to CPSR, and to the SPSR (ARM Architecture Reference Manual, A4.1)
unfoldable pub with_status_fields : ℕ → ℕ → List ℕ → List ℕ
with_status_fields fields value file =
    with_status file
    (flag_field fields (status file) value * 2 ^ 28 + control_field fields (mode file == 0x10) (status file) value)

unfoldable pub with_saved_status_fields : ℕ → ℕ → List ℕ → List ℕ
with_saved_status_fields fields value file =
    with_saved_status file
    (flag_field fields (saved_status file) value * 2 ^ 28 + saved_control_field fields (saved_status file) value)

abbrev pub after_write_status : Bool → ℕ → Source → Site → List ℕ → List ℕ
after_write_status saved fields source site file =
    if saved then with_saved_status_fields fields (source_of source site file) file
    else with_status_fields fields (source_of source site file) file

abbrev pub write_status_cost : (Bool → ℕ) → ℕ
write_status_cost code = code true
