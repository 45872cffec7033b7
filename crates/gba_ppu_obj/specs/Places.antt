use Rattle.std.specs.Prelude.{ℕ, Bool, ◌+◌, ◌-◌, ◌*◌, ◌/◌, ◌%◌, ◌^◌, List, if◌then◌else◌}
use Rattle.gba_word.specs.Extension.{sign_extension}
use Rattle.gba_ppu_dot.specs.Bytes.{half_at}

-- The place of a dot in a sprite's box, counted from the box's upper left corner. Columns go round at 512 and lines at
-- 256, so that a box can reach over the left and the upper edge of the screen.
abbrev pub box_column : ℕ → ℕ → ℕ
box_column left x = (x + (512 - left)) % 512

abbrev pub box_row : ℕ → ℕ → ℕ
box_row top y = (y + (256 - top)) % 256

-- the place in the picture of a sprite that isn't affine
abbrev pub mirrored : Bool → ℕ → ℕ → ℕ
mirrored mirror side place = if mirror then side - 1 - place else place

-- PA, PB, PC and PD, from 0 to 3, of a group of parameters: signed halfwords with 8 bits behind the point, as words
-- (GBATEK, LCD OBJ OAM Rotation/Scaling Parameters)
abbrev pub parameter_of : List ℕ → ℕ → ℕ → ℕ
parameter_of oam group number = sign_extension (half_at oam (32 * group + 8 * number + 6)) 16

-- The place in the picture of an affine sprite, across or down, by two of the parameters. Both the box and the picture
-- are seen from their middle. Sums are words, negative ones by their complement, and a place left of the picture or
-- above it stands for itself plus 2 ^ 24, which is past every picture's edge.
unfoldable pub turned_place : ℕ → ℕ → ℕ → ℕ → ℕ → ℕ → ℕ → ℕ
turned_place across down box_wide box_high side p q =
    ((across * (p + (2 ^ 32 - box_wide / 2)) + down * (q + (2 ^ 32 - box_high / 2))) % 2 ^ 32 / 2 ^ 8 + side / 2)
    % 2 ^ 24
