use Rattle.std.specs.Int.{cast_unsigned, w32}
use Rattle.std.specs.Prelude.{ℕ, ℤ, Bool, List, ◌+◌, ◌*◌, ◌%◌, ◌^◌, if◌then◌else◌}
use Rattle.gba_terms.specs.Bits.{bit, field}
use Rattle.gba_word.specs.Sums.{flag_number}
use Rattle.gba_psr.specs.Entry.{after_entry}
use Rattle.gba_psr.specs.RegisterFile.{status, register, with_register, with_status}
use Rattle.gba_psr.specs.declared.exceptions.Exception.TheVariants.{Undefined, Software}
use Rattle.gba_exec_registers.specs.Access.{counter, operand_register, after_jump, jump_cost}
use Rattle.gba_exec_registers.specs.declared.site.Site.{Site}

-- a status whose T, bit 5, is this
abbrev pub with_thumb : ℕ → Bool → ℕ
with_thumb old thumb = field old 6 26 * 2 ^ 6 + flag_number thumb * 2 ^ 5 + field old 0 5

-- BX: T becomes bit 0 of the target, then the jump (ARM Architecture Reference Manual, A4.1)
unfoldable pub after_exchange_to : ℕ → List ℕ → List ℕ
after_exchange_to target file = after_jump (with_status file (with_thumb (status file) (bit target 0))) target

abbrev pub after_exchange : ℕ → Site → List ℕ → List ℕ
after_exchange rm site file = after_exchange_to (operand_register file (counter site) rm) file

-- B and BL (ARM Architecture Reference Manual, A4.1): the offset counts words; with the link r14 takes the address of
-- the next instruction
unfoldable pub after_branch : Bool → ℤ → Site → List ℕ → List ℕ
after_branch link offset site file =
    let target = (counter site + 4 * cast_unsigned w32 offset) % 2 ^ 32 in
    after_jump (if link then with_register file 14 (register file 15) else file) target

-- SWI: the exception, linked to the next instruction
abbrev pub after_interrupt : List ℕ → List ℕ
after_interrupt file = after_entry Software (register file 15) file

-- a word without an operation: the Undefined trap, linked to the next instruction, and one cycle more
abbrev pub after_undefined : List ℕ → List ℕ
after_undefined file = after_entry Undefined (register file 15) file

abbrev pub undefined_cost : (Bool → ℕ) → ℕ
undefined_cost code = jump_cost code + 1
