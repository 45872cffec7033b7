use Rattle.std.specs.Prelude.{ℕ, Bool, ◌+◌, ◌*◌, ◌/◌, ◌%◌, ◌&&◌, ◌||◌, ◌==◌, nat_lt, true, false, List, slice_index, if◌then◌else◌}
use Rattle.gba_terms.specs.Bits.{bit, field}
use Rattle.gba_ppu_reg.specs.Registers.{Picture, picture_kept, picture_mode}
use Rattle.gba_ppu_dot.specs.Dots.{clear_dot}
use Rattle.gba_ppu_dot.specs.declared.dot.Dot.{Dot}
use Rattle.gba_ppu_dot.specs.declared.dot.DotKind.{DotKind}
use Rattle.gba_ppu_dot.specs.declared.dot.DotKind.TheVariants.{Plain, Semi}
use Rattle.gba_ppu_obj.specs.Attributes.{has_eight_bits, height_of, mode_of, palette_of, priority_of, tile_of, width_of}
use Rattle.gba_ppu_obj.specs.declared.attributes.Attributes.{Attributes}
use Rattle.gba_ppu_obj.specs.declared.attributes.SpriteMode.{SpriteMode}
use Rattle.gba_ppu_obj.specs.declared.attributes.SpriteMode.TheVariants.{Normal, SemiTransparent, Window, Prohibited}
use Rattle.gba_ppu_obj.specs.declared.sprite.Mapping.{Mapping}
use Rattle.gba_ppu_obj.specs.declared.sprite.Sprite.{Sprite}

-- How the tiles of sprites lie in video memory: one after another by DISPCNT's bit 6, else in rows of 32 (GBATEK, LCD
-- OBJ VRAM Character (Tile) Mapping). In the modes with a bitmap the lower half of their memory is the bitmap's.
abbrev pub has_bitmap : ℕ → Bool
has_bitmap mode = (mode == 3) || (mode == 4) || (mode == 5)

abbrev pub mapping_of : Picture → Mapping
mapping_of r = record { one_dimension = bit (picture_kept 0x000 r) 6; with_bitmap = has_bitmap (picture_mode r) }

-- A tile's number counts units of 32 bytes, of which a tile with 8 bits for each dot has two. In rows of 32 such a tile
-- begins at an even number, whatever the attributes say.
abbrev pub tile_units : Attributes → ℕ
tile_units a = if has_eight_bits a then 2 else 1

abbrev pub first_in_rows : Attributes → ℕ
first_in_rows a = if has_eight_bits a then 2 * (tile_of a / 2) else tile_of a

-- Sprites have the upper half of the palette. A palette of 16 entries is chosen with 4 bits for each dot alone.
abbrev pub palette_start : Attributes → ℕ
palette_start a = if has_eight_bits a then 256 else 256 + 16 * palette_of a

-- what the dots of a sprite are, by its mode: of a prohibited one nothing is shown
abbrev pub kind_of : SpriteMode → DotKind
kind_of Normal = Plain
kind_of SemiTransparent = Semi
kind_of Window = Plain
kind_of Prohibited = Plain

abbrev pub is_window : SpriteMode → Bool
is_window Normal = false
is_window SemiTransparent = false
is_window Window = true
is_window Prohibited = false

-- A sprite's picture: its sides, the number of its first tile, how far it is in units to the tile below and to the next
-- one, and what its dots are.
abbrev pub sprite_of : Mapping → Attributes → Sprite
sprite_of m a = record {
  width = width_of a;
  height = height_of a;
  first_tile = if m.one_dimension then tile_of a else first_in_rows a;
  row_units = if m.one_dimension then width_of a / 8 * tile_units a else 32;
  tile_units = tile_units a;
  eight_bits = has_eight_bits a;
  with_bitmap = m.with_bitmap;
  palette_start = palette_start a;
  priority = priority_of a;
  kind = kind_of (mode_of a);
  in_window = is_window (mode_of a);
}

-- the number of the tile that has a place of the picture: there are 1,024 units
unfoldable pub tile_number : Sprite → ℕ → ℕ → ℕ
tile_number s across down = (s.first_tile + down / 8 * s.row_units + across / 8 * s.tile_units) % 1024

-- The number of a dot of a tile: a byte, or a nibble with the left dot in the low one. The tiles are in the 32 KiB from
-- 10000h on, and past their end comes their beginning.
unfoldable pub byte_number : List ℕ → ℕ → ℕ → ℕ → ℕ
byte_number vram tile column row = slice_index vram (0x10000 + (32 * tile + 8 * row + column) % 0x8000)

unfoldable pub nibble_number : List ℕ → ℕ → ℕ → ℕ → ℕ
nibble_number vram tile column row =
    field (slice_index vram (0x10000 + (32 * tile + 4 * row + column / 2) % 0x8000)) (4 * (column % 2)) 4

abbrev pub dot_number : List ℕ → Sprite → ℕ → ℕ → ℕ → ℕ
dot_number vram s tile column row =
    if s.eight_bits then byte_number vram tile column row else nibble_number vram tile column row

-- the number at a place of the picture: 0 where its tile is in the bitmap's memory
unfoldable pub picture_number : List ℕ → Sprite → ℕ → ℕ → ℕ
picture_number vram s across down =
    if s.with_bitmap && nat_lt (tile_number s across down) 512
    then 0
    else dot_number vram s (tile_number s across down) (across % 8) (down % 8)

abbrev pub shown_dot : Sprite → ℕ → Dot
shown_dot s number = record {
  opaque = true;
  entry = s.palette_start + number;
  direct = false;
  priority = s.priority;
  kind = s.kind;
  window = false;
}

-- a dot of the sprite window, which isn't seen itself
abbrev pub window_dot : Dot
window_dot = record clear_dot { window = true }

-- the dot by its number: number 0 is nothing
unfoldable pub numbered_dot : Sprite → ℕ → Dot
numbered_dot s number = if number == 0 then clear_dot else if s.in_window then window_dot else shown_dot s number
