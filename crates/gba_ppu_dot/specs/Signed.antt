use Rattle.std.specs.Prelude.{ℕ, ◌-◌, ◌^◌, ℤ, pos, negsuc, if◌then◌else◌}
use Rattle.gba_terms.specs.Bits.{bit}

-- What a word stands for as a signed number: the laws of affine backgrounds and sprites say by it what
-- their words mean.
abbrev pub signed : ℕ → ℤ
signed word = if bit word 31 then negsuc (2 ^ 32 - 1 - word) else pos word
