use Rattle.std.specs.Prelude.{ℕ, ◌+◌, ◌-◌, ◌*◌, ◌/◌, min}
use Rattle.gba_terms.specs.Bits.{field}

-- A colour has three parts of 5 bits, red lowest (GBATEK, LCD Color Palettes). Bit 15 isn't part of it.
abbrev pub red : ℕ → ℕ
red colour = field colour 0 5

abbrev pub green : ℕ → ℕ
green colour = field colour 5 5

abbrev pub blue : ℕ → ℕ
blue colour = field colour 10 5

abbrev pub colour_from : ℕ → ℕ → ℕ → ℕ
colour_from r g b = r + 32 * g + 1024 * b

-- The effects on a part (GBATEK, LCD I/O Color Special Effects). Coefficients are sixteenths, from 0 to 16, and each
-- quotient is rounded down.
abbrev pub part_of_both : ℕ → ℕ → ℕ → ℕ → ℕ
part_of_both eva evb top below = min ((top * eva + below * evb) / 16) 31

abbrev pub brighter_part : ℕ → ℕ → ℕ
brighter_part evy part = part + (31 - part) * evy / 16

abbrev pub darker_part : ℕ → ℕ → ℕ
darker_part evy part = part - part * evy / 16

-- a colour and the one behind it
unfoldable pub both : ℕ → ℕ → ℕ → ℕ → ℕ
both eva evb top below =
    colour_from (part_of_both eva evb (red top) (red below)) (part_of_both eva evb (green top) (green below))
    (part_of_both eva evb (blue top) (blue below))

-- a colour alone
unfoldable pub brighter : ℕ → ℕ → ℕ
brighter evy colour =
    colour_from (brighter_part evy (red colour)) (brighter_part evy (green colour)) (brighter_part evy (blue colour))

unfoldable pub darker : ℕ → ℕ → ℕ
darker evy colour =
    colour_from (darker_part evy (red colour)) (darker_part evy (green colour)) (darker_part evy (blue colour))
