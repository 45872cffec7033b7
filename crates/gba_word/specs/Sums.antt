use Rattle.std.specs.Bool.{beq}
use Rattle.std.specs.Prelude.{ℕ, Bool, not, ◌&&◌, ◌+◌, ◌%◌, ◌^◌, nat_le, if◌then◌else◌}
use Rattle.gba_terms.specs.Bits.{bit}
use Rattle.gba_word.specs.declared.sums.Sum.{Sum}

-- a flag as the number that it adds
abbrev pub flag_number : Bool → ℕ
flag_number flag = if flag then 1 else 0

-- whether both terms of a sum have one sign and the sum has the other (ARM Architecture Reference Manual, OverflowFrom)
abbrev pub overflows : ℕ → ℕ → ℕ → Bool
overflows a b sum = beq (bit a 31) (bit b 31) && not (beq (bit sum 31) (bit a 31))

-- The sum of two words and a carry: the word, whether the whole sum has a 33rd bit, and whether the signed sum leaves
-- the range of a signed word (ARM Architecture Reference Manual, CarryFrom and OverflowFrom).
abbrev pub sum_of : ℕ → ℕ → Bool → Sum
sum_of a b carry =
    let whole = a + b + flag_number carry in
    record { value = whole % 2 ^ 32; carry = nat_le (2 ^ 32) whole; overflow = overflows a b (whole % 2 ^ 32) }
