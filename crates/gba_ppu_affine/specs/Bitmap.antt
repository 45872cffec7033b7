use Rattle.std.specs.Prelude.{ℕ, Bool, ◌+◌, ◌*◌, ◌&&◌, ◌==◌, nat_lt, List, slice_index, if◌then◌else◌}
use Rattle.gba_terms.specs.Bits.{bit}
use Rattle.gba_ppu_reg.specs.Registers.{Picture, picture_kept, picture_mode}
use Rattle.gba_ppu_dot.specs.Bytes.{half_at}
use Rattle.gba_ppu_dot.specs.Control.{control_of, priority_of}
use Rattle.gba_ppu_dot.specs.Dots.{clear_dot, coloured_dot, indexed_dot}
use Rattle.gba_ppu_dot.specs.declared.dot.Dot.{Dot}
use Rattle.gba_ppu_affine.specs.Places.{place_across, place_down}

-- A bitmap, which is background 2 of modes 3 to 5 (GBATEK, LCD VRAM Bitmap BG Modes). Modes 4 and 5 have two pages, and
-- DISPCNT's bit 4 shows the second one, which begins at A000h.
abbrev pub page_start : Picture → ℕ
page_start r = if bit (picture_kept 0x000 r) 4 then 0xa000 else 0

-- A bitmap of so many columns and rows has a halfword with the colour for each dot, or a byte with the palette's entry,
-- row by row from an offset on. Past its edges there is nothing.
abbrev pub is_inside : ℕ → ℕ → ℕ → ℕ → Bool
is_inside columns rows u v = nat_lt u columns && nat_lt v rows

abbrev pub colours_dot : ℕ → ℕ → ℕ → List ℕ → ℕ → ℕ → ℕ → Dot
colours_dot columns rows start vram priority u v =
    if is_inside columns rows u v then coloured_dot priority (half_at vram (start + 2 * (columns * v + u)))
    else clear_dot

abbrev pub entries_dot : ℕ → ℕ → ℕ → List ℕ → ℕ → ℕ → ℕ → Dot
entries_dot columns rows start vram priority u v =
    if is_inside columns rows u v then indexed_dot priority 0 (slice_index vram (start + columns * v + u))
    else clear_dot

-- the bitmaps of the modes; in a mode without one there is nothing (own)
unfoldable pub bitmap_dot : ℕ → ℕ → List ℕ → ℕ → ℕ → ℕ → Dot
bitmap_dot mode page vram priority u v =
    if mode == 3 then colours_dot 240 160 0 vram priority u v
    else if mode == 4 then entries_dot 240 160 page vram priority u v
    else if mode == 5 then colours_dot 160 128 page vram priority u v
    else clear_dot

-- The pixel at x of the bitmap, in the line that the inner reference point of background 2 is of.
unfoldable pub bitmap_pixel : Picture → List ℕ → ℕ → Dot
bitmap_pixel r vram x =
    bitmap_dot (picture_mode r) (page_start r) vram (priority_of (control_of 2 r)) (place_across 2 r x)
    (place_down 2 r x)
