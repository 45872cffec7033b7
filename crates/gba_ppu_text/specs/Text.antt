use Rattle.std.specs.Prelude.{ℕ, Bool, ◌+◌, ◌-◌, ◌*◌, ◌/◌, ◌%◌, nat_le, List, if◌then◌else◌}
use Rattle.gba_terms.specs.Bits.{bit, field}
use Rattle.gba_ppu_reg.specs.Registers.{Picture, picture_kept}
use Rattle.gba_ppu_dot.specs.Bytes.{half_at, tile_byte}
use Rattle.gba_ppu_dot.specs.Control.{control_of, has_eight_bits, map_start, priority_of, tiles_start}
use Rattle.gba_ppu_dot.specs.Dots.{indexed_dot}
use Rattle.gba_ppu_dot.specs.declared.dot.Dot.{Dot}

-- A text background (GBATEK, LCD VRAM Character Data, LCD VRAM BG Screen Data Format, LCD I/O BG Scrolling). The map is
-- 256 or 512 dots wide (bit 14 of the control) and high (bit 15).
abbrev pub is_wide : ℕ → Bool
is_wide control = bit control 14

abbrev pub is_high : ℕ → Bool
is_high control = bit control 15

abbrev pub map_side : Bool → ℕ
map_side twice = if twice then 512 else 256

abbrev pub on_map : Bool → ℕ → ℕ
on_map twice place = place % map_side twice

-- The map consists of blocks of 256 x 256 dots, 2 KiB each, from left to right and then downwards: which of them has a
-- place.
abbrev pub block_of : ℕ → ℕ → ℕ → ℕ
block_of control x y =
    (if nat_le 256 x then 1 else 0) + (if nat_le 256 y then (if is_wide control then 2 else 1) else 0)

-- The map's entry for a place on the map. A block has 32 rows of 32 entries, one for each tile of 8 x 8 dots.
unfoldable pub text_entry : List ℕ → ℕ → ℕ → ℕ → ℕ
text_entry vram control x y =
    half_at vram (map_start control + 0x800 * block_of control x y + 64 * (y % 256 / 8) + 2 * (x % 256 / 8))

-- A row of a tile begins at an offset. The numbers of its dots are bytes, or nibbles with the left dot in the low one.
unfoldable pub byte_number : List ℕ → ℕ → ℕ → ℕ
byte_number vram start column = tile_byte vram (start + column)

unfoldable pub nibble_number : List ℕ → ℕ → ℕ → ℕ
nibble_number vram start column = field (tile_byte vram (start + column / 2)) (4 * (column % 2)) 4

-- the number of a dot of a tile, as the tile is stored: 64 bytes with 8 bits for each dot, or 32 with 4
abbrev pub unflipped_number : List ℕ → ℕ → ℕ → ℕ → ℕ → ℕ
unflipped_number vram control tile column row =
    if has_eight_bits control
    then byte_number vram (tiles_start control + 64 * tile + 8 * row) column
    else nibble_number vram (tiles_start control + 32 * tile + 4 * row) column

-- An entry has the tile in bits 0 to 9, whether the tile is mirrored from left to right in bit 10 and upside down in
-- bit 11, and the palette of 16 entries in bits 12 to 15, which counts with 4 bits alone.
abbrev pub mirrored : Bool → ℕ → ℕ
mirrored mirror place = if mirror then 7 - place else place

unfoldable pub number_at : List ℕ → ℕ → ℕ → ℕ → ℕ → ℕ
number_at vram control entry column row =
    unflipped_number vram control (field entry 0 10) (mirrored (bit entry 10) column) (mirrored (bit entry 11) row)

abbrev pub palette_of : ℕ → ℕ → ℕ
palette_of control entry = if has_eight_bits control then 0 else 16 * field entry 12 4

-- the dot of an entry's tile, as it is seen
abbrev pub tile_dot : List ℕ → ℕ → ℕ → ℕ → ℕ → Dot
tile_dot vram control entry column row =
    indexed_dot (priority_of control) (palette_of control entry) (number_at vram control entry column row)

-- the dot at a place on the map
abbrev pub map_dot : List ℕ → ℕ → ℕ → ℕ → Dot
map_dot vram control x y = tile_dot vram control (text_entry vram control x y) (x % 8) (y % 8)

-- what BGxHOFS and BGxVOFS say
abbrev pub scroll_across : ℕ → Picture → ℕ
scroll_across background r = picture_kept (0x010 + 4 * background) r

abbrev pub scroll_down : ℕ → Picture → ℕ
scroll_down background r = picture_kept (0x012 + 4 * background) r

-- The pixel at (x, y) of a text background.
unfoldable pub text_pixel : Picture → List ℕ → ℕ → ℕ → ℕ → Dot
text_pixel r vram background y x =
    let control = control_of background r in
    map_dot vram control (on_map (is_wide control) (x + scroll_across background r))
    (on_map (is_high control) (y + scroll_down background r))
