use Rattle.std.specs.Prelude.{ℕ, Bool, true, false, not, ◌&&◌, ◌+◌, ◌*◌, ◌==◌, nat_lt, List, if◌then◌else◌}
use Rattle.gba_terms.specs.Bits.{bit, field}
use Rattle.gba_ppu_dot.specs.Bytes.{half_at}
use Rattle.gba_ppu_obj.specs.declared.attributes.Attributes.{Attributes}
use Rattle.gba_ppu_obj.specs.declared.attributes.SpriteMode.{SpriteMode}
use Rattle.gba_ppu_obj.specs.declared.attributes.SpriteMode.TheVariants.{Normal, SemiTransparent, Window, Prohibited}

-- The attributes of a sprite from 0 to 127, three halfwords (GBATEK, LCD OBJ OAM Attributes), and their fields.
abbrev pub attributes_of : List ℕ → ℕ → Attributes
attributes_of oam number = record {
  first = half_at oam (8 * number);
  second = half_at oam (8 * number + 2);
  third = half_at oam (8 * number + 4);
}

-- the line and the column of its box's upper left corner
abbrev pub top_of : Attributes → ℕ
top_of a = field a.first 0 8

abbrev pub left_of : Attributes → ℕ
left_of a = field a.second 0 9

-- whether it is turned and scaled by a group of parameters
abbrev pub is_affine : Attributes → Bool
is_affine a = bit a.first 8

-- bit 9 of the first halfword doubles the box of an affine sprite, and hides any other
abbrev pub is_double : Attributes → Bool
is_double a = is_affine a && bit a.first 9

abbrev pub is_hidden : Attributes → Bool
is_hidden a = not (is_affine a) && bit a.first 9

abbrev pub mode_of : Attributes → SpriteMode
mode_of a =
    let mode = field a.first 10 2 in
    if mode == 0 then Normal else if mode == 1 then SemiTransparent else if mode == 2 then Window else Prohibited

-- whether its dots have 8 bits, and not 4
abbrev pub has_eight_bits : Attributes → Bool
has_eight_bits a = bit a.first 13

abbrev pub shape_of : Attributes → ℕ
shape_of a = field a.first 14 2

abbrev pub size_of : Attributes → ℕ
size_of a = field a.second 14 2

-- the group of parameters of an affine sprite, from 0 to 31
abbrev pub group_of : Attributes → ℕ
group_of a = field a.second 9 5

-- whether a sprite that isn't affine is mirrored from left to right, and upside down
abbrev pub is_mirrored : Attributes → Bool
is_mirrored a = bit a.second 12

abbrev pub is_upside_down : Attributes → Bool
is_upside_down a = bit a.second 13

abbrev pub tile_of : Attributes → ℕ
tile_of a = field a.third 0 10

abbrev pub priority_of : Attributes → ℕ
priority_of a = field a.third 10 2

abbrev pub palette_of : Attributes → ℕ
palette_of a = field a.third 12 4

-- The sides of a sprite's picture, in dots: it is square, or wide, or high. A square has the same side twice, a wide
-- one a long side across and a short one down, a high one the other way round.
abbrev pub square_side : ℕ → ℕ
square_side size = if size == 0 then 8 else if size == 1 then 16 else if size == 2 then 32 else 64

abbrev pub long_side : ℕ → ℕ
long_side size = if size == 0 then 16 else if size == 1 then 32 else if size == 2 then 32 else 64

abbrev pub short_side : ℕ → ℕ
short_side size = if size == 0 then 8 else if size == 1 then 8 else if size == 2 then 16 else 32

abbrev pub width_of : Attributes → ℕ
width_of a =
    if shape_of a == 0 then square_side (size_of a)
    else if shape_of a == 1 then long_side (size_of a)
    else short_side (size_of a)

abbrev pub height_of : Attributes → ℕ
height_of a =
    if shape_of a == 0 then square_side (size_of a)
    else if shape_of a == 1 then short_side (size_of a)
    else long_side (size_of a)

-- The sides of the box in which it is shown.
abbrev pub box_width : Attributes → ℕ
box_width a = if is_double a then 2 * width_of a else width_of a

abbrev pub box_height : Attributes → ℕ
box_height a = if is_double a then 2 * height_of a else height_of a

-- whether it is shown at all: shape 3 and mode 3 mean nothing, and a sprite that has one of them isn't shown (own)
abbrev pub is_prohibited : SpriteMode → Bool
is_prohibited Normal = false
is_prohibited SemiTransparent = false
is_prohibited Window = false
is_prohibited Prohibited = true

unfoldable pub is_shown : Attributes → Bool
is_shown a = not (is_hidden a) && not (shape_of a == 3) && not (is_prohibited (mode_of a))

-- whether a row of its box is shown
abbrev pub is_row_shown : Attributes → ℕ → Bool
is_row_shown a q = is_shown a && nat_lt q (box_height a)
