use Rattle.std.specs.Prelude.{ℕ, List, map}
use Rattle.std.specs.Int.{w16, to_le_bytes}
use Rattle.std.specs.List.{flat_map, range_with_len}
use Rattle.gba_mem.specs.Memories.{Memories}
use Rattle.gba_ppu_mix.specs.Mixing.{mixed_pixel}
use Rattle.gba_ppu_reg.specs.Registers.{Picture}

-- The lines of the picture. A line is a function of the picture's registers, inner reference points included, of the
-- palette, the VRAM and the OAM, and of its number, from 0 to 159: its 240 pixels from left to right.
unfoldable pub line_colours : Picture → Memories → ℕ → List ℕ
line_colours r m y = map (mixed_pixel r m.palette m.vram m.oam y) (range_with_len 0 240)

-- a colour as two bytes, the low one first
abbrev pub colour_bytes : ℕ → List ℕ
colour_bytes colour = to_le_bytes w16 colour

-- a line as bytes
abbrev pub colours_bytes : List ℕ → List ℕ
colours_bytes colours = flat_map colour_bytes colours

unfoldable pub line_bytes : Picture → Memories → ℕ → List ℕ
line_bytes r m y = colours_bytes (line_colours r m y)
