use Rattle.std.specs.Prelude.{ℕ, ◌&&◌, nat_lt, List, if◌then◌else◌}
use Rattle.gba_ppu_reg.specs.Registers.{Picture}
use Rattle.gba_ppu_dot.specs.Dots.{clear_dot}
use Rattle.gba_ppu_dot.specs.declared.dot.Dot.{Dot}
use Rattle.gba_ppu_obj.specs.Attributes.{attributes_of, box_height, box_width, group_of, is_affine, is_mirrored, is_row_shown, is_upside_down, left_of, top_of}
use Rattle.gba_ppu_obj.specs.Order.{first_over}
use Rattle.gba_ppu_obj.specs.Places.{box_column, box_row, mirrored, parameter_of, turned_place}
use Rattle.gba_ppu_obj.specs.Tiles.{mapping_of, numbered_dot, picture_number, sprite_of}
use Rattle.gba_ppu_obj.specs.declared.attributes.Attributes.{Attributes}
use Rattle.gba_ppu_obj.specs.declared.matrix.Matrix.{Matrix}
use Rattle.gba_ppu_obj.specs.declared.sprite.Mapping.{Mapping}
use Rattle.gba_ppu_obj.specs.declared.sprite.Sprite.{Sprite}

-- the four parameters of a group
abbrev pub matrix_of : List ℕ → ℕ → Matrix
matrix_of oam group = record {
  pa = parameter_of oam group 0;
  pb = parameter_of oam group 1;
  pc = parameter_of oam group 2;
  pd = parameter_of oam group 3;
}

-- the number at a place of the box of a sprite that isn't affine
unfoldable pub straight_number : List ℕ → Sprite → Attributes → ℕ → ℕ → ℕ
straight_number vram s a q p =
    picture_number vram s (mirrored (is_mirrored a) s.width p) (mirrored (is_upside_down a) s.height q)

-- The number at a place of the box of an affine sprite, by the sides of the box. Outside of its picture it is 0.
unfoldable pub turned_number : List ℕ → Sprite → Matrix → ℕ → ℕ → ℕ → ℕ → ℕ
turned_number vram s t box_wide box_high q p =
    let across = turned_place t.pa t.pb box_wide box_high s.width p q in
    let down = turned_place t.pc t.pd box_wide box_high s.height p q in
    if nat_lt across s.width && nat_lt down s.height then picture_number vram s across down else 0

unfoldable pub box_number : Mapping → List ℕ → List ℕ → Attributes → ℕ → ℕ → ℕ
box_number m vram oam a q p =
    if is_affine a
    then turned_number vram (sprite_of m a) (matrix_of oam (group_of a)) (box_width a) (box_height a) q p
    else straight_number vram (sprite_of m a) a q p

-- The dot of a sprite at (x, y).
unfoldable pub attributes_dot : Mapping → List ℕ → List ℕ → Attributes → ℕ → ℕ → Dot
attributes_dot m vram oam a y x =
    if is_row_shown a (box_row (top_of a) y)
    then (if nat_lt (box_column (left_of a) x) (box_width a)
    then numbered_dot (sprite_of m a) (box_number m vram oam a (box_row (top_of a) y) (box_column (left_of a) x))
    else clear_dot)
    else clear_dot

abbrev pub sprite_dot : Picture → List ℕ → List ℕ → ℕ → ℕ → ℕ → Dot
sprite_dot r vram oam y x number = attributes_dot (mapping_of r) vram oam (attributes_of oam number) y x

-- The pixel at (x, y) of the sprites: the dots of all 128 over one another.
unfoldable pub sprites_pixel : Picture → List ℕ → List ℕ → ℕ → ℕ → Dot
sprites_pixel r vram oam y x = first_over (sprite_dot r vram oam y x) 128
