use Rattle.std.specs.Prelude.{ℕ, ◌+◌, ◌-◌, ◌%◌, ◌^◌, if◌then◌else◌}
use Rattle.gba_terms.specs.Bits.{bit}

-- The low `width` bits of a number as a signed number, as a word: a number whose top bit is set stands for itself less
-- 2 ^ width, which modulo 2 ^ 32 is the word with ones above (ARM Architecture Reference Manual, SignExtend in the
-- glossary).
abbrev pub sign_extension : ℕ → ℕ → ℕ
sign_extension value width =
    if bit value (width - 1) then value % 2 ^ width + (2 ^ 32 - 2 ^ width) else value % 2 ^ width
