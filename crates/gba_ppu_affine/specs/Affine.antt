use Rattle.std.specs.Prelude.{ℕ, ◌+◌, ◌*◌, ◌/◌, ◌%◌, ◌&&◌, ◌==◌, nat_lt, List, slice_index, if◌then◌else◌}
use Rattle.gba_ppu_reg.specs.Registers.{Picture}
use Rattle.gba_ppu_dot.specs.Bytes.{tile_byte}
use Rattle.gba_ppu_dot.specs.Control.{control_of, map_start, priority_of, size_of, tiles_start, wraps}
use Rattle.gba_ppu_dot.specs.Dots.{clear_dot, indexed_dot}
use Rattle.gba_ppu_dot.specs.declared.dot.Dot.{Dot}
use Rattle.gba_ppu_affine.specs.Places.{place_across, place_down}

-- An affine background (GBATEK, LCD VRAM BG Screen Data Format, Rotation/Scaling BG Screen). The map is a square of so
-- many dots, by its size.
abbrev pub map_side : ℕ → ℕ
map_side size = if size == 0 then 128 else if size == 1 then 256 else if size == 2 then 512 else 1024

-- the map has a byte for each tile of 8 x 8 dots, row by row
unfoldable pub tile_at : List ℕ → ℕ → ℕ → ℕ → ℕ
tile_at vram control u v =
    slice_index vram (map_start control + v / 8 * (map_side (size_of control) / 8) + u / 8)

-- a tile has a byte for each dot, row by row
unfoldable pub tile_dot : List ℕ → ℕ → ℕ → ℕ → ℕ → Dot
tile_dot vram control tile column row =
    indexed_dot (priority_of control) 0 (tile_byte vram (tiles_start control + 64 * tile + 8 * row + column))

-- the dot at a place on the map
abbrev pub map_dot : List ℕ → ℕ → ℕ → ℕ → Dot
map_dot vram control u v = tile_dot vram control (tile_at vram control u v) (u % 8) (v % 8)

-- The dot at any place. Past its edges the map begins anew where it wraps, and there is nothing where it doesn't.
unfoldable pub affine_dot : List ℕ → ℕ → ℕ → ℕ → Dot
affine_dot vram control u v =
    let side = map_side (size_of control) in
    if wraps control then map_dot vram control (u % side) (v % side)
    else if nat_lt u side && nat_lt v side then map_dot vram control u v
    else clear_dot

-- The pixel at x of an affine background, in the line that its inner reference point is of.
unfoldable pub affine_pixel : Picture → List ℕ → ℕ → ℕ → Dot
affine_pixel r vram background x =
    affine_dot vram (control_of background r) (place_across background r x) (place_down background r x)
