use Rattle.std.specs.Prelude.{◌≡◌, ℕ, Bool, ◌<◌, List, slice_index, if◌then◌else◌}
use Rattle.gba_terms.specs.Bits.{bit}
use Rattle.gba_ppu_reg.specs.Registers.{Picture, picture_kept}
use Rattle.gba_ppu_mix.specs.Blending.{blending_of, stack_colour}
use Rattle.gba_ppu_mix.specs.Layers.{background_dot, sprites_dot}
use Rattle.gba_ppu_mix.specs.Stacks.{Dots, ranks_of, stack_of}
use Rattle.gba_ppu_mix.specs.Windows.{shows_at, windows_of}
use Rattle.gba_ppu_mix.specs.declared.blending.Blending.{Blending}
use Rattle.gba_ppu_mix.specs.declared.stacks.Ranks.{Ranks}
use Rattle.gba_ppu_mix.specs.declared.windows.Windows.{Windows}

-- the colour where the layers have these dots, by what shows
abbrev pub colour_where : List ℕ → ℕ → Blending → Ranks → Dots → ℕ
colour_where palette shows b ranks dots = stack_colour palette b (bit shows 5) dots (stack_of shows ranks dots)

-- the same by the windows
unfoldable pub colour_of_dots : List ℕ → Windows → Blending → Ranks → ℕ → Dots → ℕ
colour_of_dots palette w b ranks x dots = colour_where palette (shows_at w x dots.sprite.window) b ranks dots

-- the dots of the layers at (x, y)
abbrev pub layers_dots : Picture → List ℕ → List ℕ → ℕ → ℕ → Dots
layers_dots r vram oam y x = record {
  sprite = sprites_dot r vram oam y x;
  background0 = background_dot r vram 0 y x;
  background1 = background_dot r vram 1 y x;
  background2 = background_dot r vram 2 y x;
  background3 = background_dot r vram 3 y x;
}

-- bit 7 of DISPCNT makes the screen white
abbrev pub is_blank : Picture → Bool
is_blank r = bit (picture_kept 0x000 r) 7

-- The pixel at (x, y): its colour, 15 bits, red lowest.
unfoldable pub mixed_pixel : Picture → List ℕ → List ℕ → List ℕ → ℕ → ℕ → ℕ
mixed_pixel r palette vram oam y x =
    if is_blank r then 0x7fff
    else colour_of_dots palette (windows_of r y) (blending_of r) (ranks_of r) x (layers_dots r vram oam y x)

-- A line of the picture has, at each x from 0 to 239, the pixel at x.
abbrev pub IsPixelLine : (ℕ → ℕ) → List ℕ → Type 0
IsPixelLine pixel colours = (x : ℕ) → x < 240 → slice_index colours x ≡ pixel x
