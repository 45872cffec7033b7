use Rattle.std.specs.Prelude.{ℕ, ◌+◌, ◌*◌, ◌%◌, ◌^◌, ◌==◌, Bool, List, map, slice_index}
use Rattle.gba_numbers.specs.Numbers.{ConsoleNumbers, value_of}
use Rattle.gba_numbers.specs.declared.fields.BoardField.{BoardField}
use Rattle.gba_numbers.specs.declared.fields.Field.TheVariants.{Board}

-- The numbers and the bytes of the I/O registers of which a console's devices are made.

-- a number of the board, cut to so many bits; of one that is in its range the cut takes nothing
abbrev pub number_cut : ℕ → BoardField → ConsoleNumbers → ℕ
number_cut width field n = value_of (Board field) n % 2 ^ width

-- a number that is a truth
abbrev pub is_set : BoardField → ConsoleNumbers → Bool
is_set field n = value_of (Board field) n == 1

-- bytes of a sound queue or of a bank of the wave
abbrev pub bytes_cut : List ℕ → List ℕ
bytes_cut bytes = map (λ b. b % 2 ^ 8) bytes

-- the halfword and the word at an offset of the I/O registers' bytes, the lowest byte first
abbrev pub half_at : ℕ → List ℕ → ℕ
half_at offset io = slice_index io offset + 2 ^ 8 * slice_index io (offset + 1)

abbrev pub word_at : ℕ → List ℕ → ℕ
word_at offset io = half_at offset io + 2 ^ 16 * half_at (offset + 2) io
