use Rattle.std.specs.Prelude.{◌≡◌, ℕ, ◌*◌, ◌%◌, ◌<◌, ◌==◌, List, slice_index, if◌then◌else◌}
use Rattle.gba_terms.specs.Bits.{field}
use Rattle.gba_ppu_dot.specs.Bytes.{half_at}
use Rattle.gba_ppu_dot.specs.declared.dot.Dot.{Dot}
use Rattle.gba_ppu_dot.specs.declared.paint.BackgroundPaints.{BackgroundPaints}

-- The colour of a dot, 15 bits: its own, or that of its entry in the palette. A palette has 512 entries.
abbrev pub palette_colour : List ℕ → ℕ → ℕ
palette_colour palette entry = field (half_at palette (2 * (entry % 512))) 0 15

unfoldable pub colour_of : List ℕ → Dot → ℕ
colour_of palette dot = if dot.direct then dot.entry else palette_colour palette dot.entry

-- The paint of a dot is a halfword: its colour where it is opaque, and else 8000h, which no colour is.
abbrev pub paint_of : List ℕ → Dot → ℕ
paint_of palette dot = if dot.opaque then colour_of palette dot else 0x8000

-- the paint of an entry of a background's palettes, where 16 begin at every multiple of 16, and where they are one
abbrev pub nibble_paint : List ℕ → ℕ → ℕ
nibble_paint palette entry = if entry % 16 == 0 then 0x8000 else palette_colour palette entry

abbrev pub byte_paint : List ℕ → ℕ → ℕ
byte_paint palette entry = if entry == 0 then 0x8000 else palette_colour palette entry

pub record ArePaints (palette : List ℕ) (p : BackgroundPaints) : Type 0 where
  pub by_nibble : (entry : ℕ) → entry < 256 → slice_index p.by_nibble entry ≡ nibble_paint palette entry
  pub by_byte : (entry : ℕ) → entry < 256 → slice_index p.by_byte entry ≡ byte_paint palette entry

-- A painted line of a layer has, at each x from 0 to 239, the paint of the pixel at x.
abbrev pub IsPaintLine : List ℕ → (ℕ → Dot) → List ℕ → Type 0
IsPaintLine palette pixel paints = (x : ℕ) → x < 240 → slice_index paints x ≡ paint_of palette (pixel x)
