use Rattle.std.specs.Prelude.{◌≡◌, ℕ, ◌%◌, ◌^◌, ◌<◌, ℤ, pos, ◌+ℤ◌, ◌*ℤ◌}
use Rattle.std.specs.Int.{int_div_euclid, int_rem_euclid}
use Rattle.gba_word.specs.Extension.{sign_extension}
use Rattle.gba_ppu_dot.specs.Signed.{signed}
use Rattle.gba_ppu_affine.specs.Affine.{map_side}
use Rattle.gba_ppu_affine.specs.Places.{place_of}

-- The places by words are those by signed numbers that don't wrap.

-- the whole part of the signed sum, rounded down
abbrev pub exact_place : ℕ → ℕ → ℕ → ℤ
exact_place start step x = int_div_euclid (signed start +ℤ signed step *ℤ pos x) (pos (2 ^ 8))

-- For every reference point and every parameter, at each place of a line: the exact place is inside a picture exactly
-- where the place by words is, and is then the same; and the two are the same on a map that wraps.
pub record RoundsDown : Type 0 where
  pub inside : (start parameter x n : ℕ) → start < 2 ^ 32 → x < 240 → n < 1024
      → exact_place start (sign_extension parameter 16) x ≡ pos n → place_of start (sign_extension parameter 16) x ≡ n
  pub only_inside : (start parameter x n : ℕ) → start < 2 ^ 32 → x < 240 → n < 1024
      → place_of start (sign_extension parameter 16) x ≡ n → exact_place start (sign_extension parameter 16) x ≡ pos n
  pub wrapped : (start parameter x size : ℕ) → start < 2 ^ 32 → x < 240
      → int_rem_euclid (exact_place start (sign_extension parameter 16) x) (pos (map_side size))
      ≡ pos (place_of start (sign_extension parameter 16) x % map_side size)
