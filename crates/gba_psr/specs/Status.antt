use Rattle.std.specs.Prelude.{◌≡◌, ℕ, ◌+◌, ◌*◌, ◌^◌, IsTrue, if◌then◌else◌}
use Rattle.gba_terms.specs.Bits.{bit, field}
use Rattle.gba_word.specs.Sums.{flag_number}
use Rattle.gba_psr.specs.declared.condition.Flags.{Flags}
use Rattle.gba_psr.specs.Modes.{is_mode}

-- the mode's number in a status register (ARM Architecture Reference Manual, A2.5)
abbrev pub mode_of : ℕ → ℕ
mode_of status = field status 0 5

-- what a status register keeps of a number: N, Z, C, V in bits 31 to 28, I, F, T in bits 7 to 5 and the mode in bits
-- 4 to 0 (ARM Architecture Reference Manual, A2.5; that the other bits aren't stored is this project's profile)
abbrev pub kept_status : ℕ → ℕ
kept_status value = field value 28 4 * 2 ^ 28 + field value 0 8

-- what CPSR is once a number was written to it: the mode stays where the number's isn't one of the seven
-- (this project's profile)
abbrev pub written_status : ℕ → ℕ → ℕ
written_status old value =
    field value 28 4 * 2 ^ 28 + field value 5 3 * 2 ^ 5
    + (if is_mode (mode_of value) then mode_of value else mode_of old)

-- N, Z, C, V, bits 31 to 28 of a status register (ARM Architecture Reference Manual, A2.5.2)
abbrev pub flags_of : ℕ → Flags
flags_of status =
    record { negative = bit status 31; zero = bit status 30; carry = bit status 29; overflow = bit status 28 }

-- a status register with other flags
abbrev pub status_with_flags : ℕ → Flags → ℕ
status_with_flags status flags =
    flag_number flags.negative * 2 ^ 31 + flag_number flags.zero * 2 ^ 30 + flag_number flags.carry * 2 ^ 29
    + flag_number flags.overflow * 2 ^ 28 + field status 0 28

-- the bytes of an instruction: of a halfword where T, bit 5, is set, and else of a word (ARM Architecture Reference
-- Manual, A2.5)
abbrev pub unit_bytes : ℕ → ℕ
unit_bytes status = if bit status 5 then 2 else 4

-- what CPSR always is: no bit but the stored ones, and one of the seven modes
pub record IsStatus (status : ℕ) : Type 0 where
  pub stored : kept_status status ≡ status
  pub mode : IsTrue (is_mode (mode_of status))
