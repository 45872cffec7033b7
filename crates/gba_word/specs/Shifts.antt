use Rattle.std.specs.Prelude.{ℕ, Bool, min, ◌==◌, ◌+◌, ◌-◌, ◌*◌, ◌/◌, ◌%◌, ◌^◌, if◌then◌else◌}
use Rattle.gba_terms.specs.Bits.{bit}
use Rattle.gba_word.specs.Sums.{flag_number}
use Rattle.gba_word.specs.declared.kinds.Shift.{Shift}
use Rattle.gba_word.specs.declared.kinds.Shift.TheVariants.{Lsl, Lsr, Asr, Ror}

-- a word turned to the right: what leaves at bit 0 enters at bit 31 (ARM Architecture Reference Manual, Rotate_Right)
abbrev pub rotation : ℕ → ℕ → ℕ
rotation value turn =
    let turn' = turn % 32 in
    value / 2 ^ turn' + value % 2 ^ turn' * 2 ^ (32 - turn')

-- a signed word divided by 2 ^ amount and rounded down: for a negative word, the complement of its complement divided
-- (ARM Architecture Reference Manual, Arithmetic_Shift_Right)
abbrev pub arithmetic_quotient : ℕ → ℕ → ℕ
arithmetic_quotient value amount =
    if bit value 31 then 2 ^ 32 - 1 - (2 ^ 32 - 1 - value) / 2 ^ amount else value / 2 ^ amount

-- A shift by an amount that isn't 0: the word, and as carry the last bit that left it. Bits past bit 31 of a logical
-- shift are 0, those of an arithmetic one are bit 31, and a rotation's carry stands in its bit 31 (ARM Architecture
-- Reference Manual, A5.1.6 to A5.1.12).
abbrev pub nonzero_shift : Shift → ℕ → ℕ → ℕ × Bool
nonzero_shift Lsl value amount = (value * 2 ^ amount % 2 ^ 32, bit (value * 2 ^ amount) 32)
nonzero_shift Lsr value amount = (value / 2 ^ amount, bit value (amount - 1))
nonzero_shift Asr value amount = (arithmetic_quotient value amount, bit value (min (amount - 1) 31))
nonzero_shift Ror value amount = (rotation value amount, bit (rotation value amount) 31)

-- a shift by the low byte of a register: by 0 it keeps word and carry (ARM Architecture Reference Manual,
-- A5.1.6 to A5.1.12)
abbrev pub register_shift : Shift → ℕ → ℕ → Bool → ℕ × Bool
register_shift kind value amount carry = if amount == 0 then (value, carry) else nonzero_shift kind value amount

-- a word turned to the right by one place through the carry (ARM Architecture Reference Manual, A5.1.13)
abbrev pub rotation_with_carry : ℕ → Bool → ℕ × Bool
rotation_with_carry value carry = (value / 2 + flag_number carry * 2 ^ 31, bit value 0)

-- what a written amount of 0 means to each kind of shift: nothing, 32, 32, and by one place through the carry
-- (ARM Architecture Reference Manual, A5.1.5 to A5.1.13)
abbrev pub zero_shift : Shift → ℕ → Bool → ℕ × Bool
zero_shift Lsl value carry = (value, carry)
zero_shift Lsr value carry = nonzero_shift Lsr value 32
zero_shift Asr value carry = nonzero_shift Asr value 32
zero_shift Ror value carry = rotation_with_carry value carry

-- a shift by the five bits that an instruction holds
abbrev pub fixed_shift : Shift → ℕ → ℕ → Bool → ℕ × Bool
fixed_shift kind value amount carry =
    if amount == 0 then zero_shift kind value carry else nonzero_shift kind value amount

-- A byte turned right by twice `turn`. The carry is bit 31 of the word, and kept where the turn is 0
-- (ARM Architecture Reference Manual, A5.1.3).
abbrev pub immediate_value : ℕ → ℕ → Bool → ℕ × Bool
immediate_value value turn carry =
    let word = rotation value (2 * turn) in
    (word, (if turn == 0 then carry else bit word 31))
