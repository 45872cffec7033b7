use Rattle.std.specs.Prelude.{◌≡◌, ℕ, ◌/◌, ◌^◌, ◌<◌, ◌≤◌, ℤ, pos, ◌+ℤ◌, ◌-ℤ◌, ◌*ℤ◌}
use Rattle.std.specs.Int.{int_div_euclid}
use Rattle.gba_word.specs.Extension.{sign_extension}
use Rattle.gba_ppu_dot.specs.Signed.{signed}
use Rattle.gba_ppu_obj.specs.Places.{turned_place}

-- The places of affine sprites by words are those by signed numbers that don't wrap.

-- how far a place of the box is from the box's middle
abbrev pub from_middle : ℕ → ℕ → ℤ
from_middle place side = pos place -ℤ pos (side / 2)

-- the place in the picture: the signed sum's whole part, rounded down, seen from the picture's middle
abbrev pub exact_place : ℕ → ℕ → ℕ → ℕ → ℕ → ℕ → ℕ → ℤ
exact_place across down box_wide box_high side p q =
    int_div_euclid (signed across *ℤ from_middle p box_wide +ℤ signed down *ℤ from_middle q box_high) (pos (2 ^ 8))
    +ℤ pos (side / 2)

-- For every two parameters, at each place of every box: the exact place is inside a picture exactly where the place by
-- words is, and is then the same.
pub record RoundsDown : Type 0 where
  pub inside : (across down box_wide box_high side p q n : ℕ) → box_wide ≤ 128 → box_high ≤ 128 → side ≤ 64
      → p < 128 → q < 128 → n < 64
      → exact_place (sign_extension across 16) (sign_extension down 16) box_wide box_high side p q ≡ pos n
      → turned_place (sign_extension across 16) (sign_extension down 16) box_wide box_high side p q ≡ n
  pub only_inside : (across down box_wide box_high side p q n : ℕ) → box_wide ≤ 128 → box_high ≤ 128 → side ≤ 64
      → p < 128 → q < 128 → n < 64
      → turned_place (sign_extension across 16) (sign_extension down 16) box_wide box_high side p q ≡ n
      → exact_place (sign_extension across 16) (sign_extension down 16) box_wide box_high side p q ≡ pos n
