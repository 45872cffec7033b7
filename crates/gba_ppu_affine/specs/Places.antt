use Rattle.std.specs.Prelude.{ℕ, ◌+◌, ◌*◌, ◌/◌, ◌%◌, ◌^◌}
use Rattle.gba_word.specs.Extension.{sign_extension}
use Rattle.gba_ppu_reg.specs.Registers.{Picture, picture_kept, reference_of}

-- Which place of its picture an affine background or a bitmap shows at x (GBATEK, LCD I/O BG Rotation/Scaling). From
-- one dot to the next the place moves by PA across and by PC down, which are signed with 8 bits behind the point. The
-- inner reference point, which has the line in it already, is the place at x = 0.
abbrev pub step_across : ℕ → Picture → ℕ
step_across background r = sign_extension (picture_kept (0x010 * background) r) 16

abbrev pub step_down : ℕ → Picture → ℕ
step_down background r = sign_extension (picture_kept (0x010 * background + 0x004) r) 16

-- A place is the sum's whole part, rounded down. Sums are words, negative ones by their complement, so that the part
-- above the 8 bits is a number of 24 bits, and a negative place stands for itself plus 2 ^ 24. That is past every
-- picture's edge, and 2 ^ 24 is a multiple of every map's side.
abbrev pub place_of : ℕ → ℕ → ℕ → ℕ
place_of start step x = (start + step * x) % 2 ^ 32 / 2 ^ 8

abbrev pub place_across : ℕ → Picture → ℕ → ℕ
place_across background r x = place_of (reference_of background r).x (step_across background r) x

abbrev pub place_down : ℕ → Picture → ℕ → ℕ
place_down background r x = place_of (reference_of background r).y (step_down background r) x
