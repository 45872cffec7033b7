use Rattle.std.proofs.Common.{[], ◌∷◌, ◌*◌, refl, ◌≡◌, ℕ, ◌∙◌, List, length, map, ap, arith}
use Rattle.std.specs.List.{flat_map, range_with_len}
use Rattle.std.proofs.lemmas.List.{length-append}
use Rattle.std.proofs.lemmas.List.Concat.{flat_map-cons}
use Rattle.std.proofs.lemmas.List.FromFn.{fill_by_all, length-map-range_with_len}
use Rattle.gba_mem.specs.Memories.{Memories}
use Rattle.gba_mem.specs.Video.{IsSameVideo}
use Rattle.gba_ppu_mix.specs.Mixing.{IsPixelLine, mixed_pixel}
use Rattle.gba_ppu_reg.specs.Registers.{Picture}
use Rattle.gba_screen.specs.Lines.{colour_bytes, colours_bytes, line_bytes, line_colours}

-- A line is what its registers, its memories and its number give.

pixels : Picture → List ℕ → List ℕ → List ℕ → ℕ → List ℕ
pixels r palette vram oam y = map (mixed_pixel r palette vram oam y) (range_with_len 0 240)

same-pixels : (r : Picture) (m n : Memories) (y : ℕ) → n.palette ≡ m.palette → n.vram ≡ m.vram → n.oam ≡ m.oam
    → pixels r n.palette n.vram n.oam y ≡ pixels r m.palette m.vram m.oam y
same-pixels r m n y palette vram oam =
    ap (λ x. pixels r x n.vram n.oam y) palette
    ∙ ap (λ x. pixels r m.palette x n.oam y) vram
    ∙ ap (λ x. pixels r m.palette m.vram x y) oam

-- of the memories it sees video memory alone
pub same_line : (r : Picture) (m n : Memories) (y : ℕ) → IsSameVideo m n → line_bytes r n y ≡ line_bytes r m y
unfolding line_bytes line_colours pixels
same_line r m n y same = ap colours_bytes (same-pixels r m n y same.palette same.vram same.oam)

-- what the mixer leaves is the line
pub drawn_line : (r : Picture) (m : Memories) (palette vram oam : List ℕ) (y : ℕ) (colours bytes : List ℕ)
    → length colours ≡ 240 → IsPixelLine (mixed_pixel r palette vram oam y) colours
    → palette ≡ m.palette → vram ≡ m.vram → oam ≡ m.oam → bytes ≡ colours_bytes colours → bytes ≡ line_bytes r m y
unfolding line_bytes line_colours pixels
drawn_line r m palette vram oam y colours bytes whole drawn same_palette same_vram same_oam spelled =
    spelled
    ∙ ap colours_bytes
    (fill_by_all (mixed_pixel r palette vram oam y) colours 240 0 whole drawn
    ∙ ap (λ x. pixels r x vram oam y) same_palette
    ∙ ap (λ x. pixels r m.palette x oam y) same_vram
    ∙ ap (λ x. pixels r m.palette m.vram x y) same_oam)

-- a line has 480 bytes
bytes-of : (colours : List ℕ) → length (colours_bytes colours) ≡ 2 * length colours
bytes-of [] = refl
bytes-of (colour ∷ colours) =
    ap length (flat_map-cons colour_bytes colour colours)
    ∙ length-append (colour_bytes colour) (flat_map colour_bytes colours) ∙ omega (arith, bytes-of colours)

pub line_length : (r : Picture) (m : Memories) (y : ℕ) → length (line_bytes r m y) ≡ 480
unfolding line_bytes line_colours
line_length r m y =
    bytes-of (line_colours r m y)
    ∙ ap (λ n. 2 * n) (length-map-range_with_len (mixed_pixel r m.palette m.vram m.oam y) 0 240)
