use Rattle.std.specs.Prelude.{ℕ, Bool, ◌+◌, ◌==◌, nat_lt, List, if◌then◌else◌}
use Rattle.gba_terms.specs.Bits.{bit}
use Rattle.gba_ppu_reg.specs.Registers.{Picture, picture_kept, picture_mode}
use Rattle.gba_ppu_dot.specs.Dots.{clear_dot}
use Rattle.gba_ppu_dot.specs.declared.dot.Dot.{Dot}
use Rattle.gba_ppu_text.specs.Text.{text_pixel}
use Rattle.gba_ppu_affine.specs.Affine.{affine_pixel}
use Rattle.gba_ppu_affine.specs.Bitmap.{bitmap_pixel}
use Rattle.gba_ppu_obj.specs.Sprites.{sprites_pixel}
use Rattle.gba_ppu_mix.specs.declared.layers.BackgroundKind.{BackgroundKind}
use Rattle.gba_ppu_mix.specs.declared.layers.BackgroundKind.TheVariants.{Text, Affine, Bitmap, Absent}

-- What each background is in each mode (GBATEK, LCD I/O Display Control): four texts in mode 0, two texts and an affine
-- one in mode 1, two affine ones in mode 2, a bitmap in modes 3 to 5. Modes 6 and 7 have none (own).
abbrev pub kind_of : ℕ → ℕ → BackgroundKind
kind_of mode background =
    if mode == 0 then Text
    else if mode == 1 then (if nat_lt background 2 then Text else if background == 2 then Affine else Absent)
    else if mode == 2 then (if nat_lt background 2 then Absent else Affine)
    else if nat_lt mode 6 then (if background == 2 then Bitmap else Absent)
    else Absent

-- bits 8 to 11 of DISPCNT show the backgrounds, bit 12 the sprites
abbrev pub is_layer_on : Picture → ℕ → Bool
is_layer_on r layer = bit (picture_kept 0x000 r) (8 + layer)

abbrev pub dot_of_kind : BackgroundKind → Picture → List ℕ → ℕ → ℕ → ℕ → Dot
dot_of_kind Text r vram background y x = text_pixel r vram background y x
dot_of_kind Affine r vram background y x = affine_pixel r vram background x
dot_of_kind Bitmap r vram background y x = bitmap_pixel r vram x
dot_of_kind Absent r vram background y x = clear_dot

-- The dot of a background at (x, y), and that of the sprites: nothing where the layer isn't on.
unfoldable pub background_dot : Picture → List ℕ → ℕ → ℕ → ℕ → Dot
background_dot r vram background y x =
    if is_layer_on r background then dot_of_kind (kind_of (picture_mode r) background) r vram background y x
    else clear_dot

unfoldable pub sprites_dot : Picture → List ℕ → List ℕ → ℕ → ℕ → Dot
sprites_dot r vram oam y x = if is_layer_on r 4 then sprites_pixel r vram oam y x else clear_dot
