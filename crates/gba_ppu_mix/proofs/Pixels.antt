-- The pixel where the screen isn't blank.
use Rattle.std.proofs.Common.{◌≡◌, ℕ, Bool, ◌||◌, ◌<◌, true, false, List, ap, ◌∙◌, sym, refl, arith, true≢false}
use Rattle.gba_terms.specs.Bits.{bit}
use Rattle.gba_ppu_reg.specs.Registers.{Picture}
use Rattle.gba_ppu_dot.specs.Dots.{clear_dot}
use Rattle.gba_ppu_mix.specs.Blending.{blending_of, stack_colour}
use Rattle.gba_ppu_mix.specs.Layers.{background_dot, is_layer_on, sprites_dot}
use Rattle.gba_ppu_mix.specs.Mixing.{colour_of_dots, is_blank, layers_dots, mixed_pixel}
use Rattle.gba_ppu_mix.specs.Painting.{backdrop_colour, has_layers}
use Rattle.gba_ppu_mix.specs.Stacks.{Dots, bottom, dot_of, front_of, ranks_of, stack_of, with_dot}
use Rattle.gba_ppu_mix.specs.Windows.{shows_at, windows_of}
use Rattle.gba_ppu_mix.specs.declared.blending.Blending.{Blending}
use Rattle.gba_ppu_mix.specs.declared.stacks.Ranks.{Ranks}
use Rattle.gba_ppu_mix.specs.declared.windows.Windows.{Windows}

pub seen : (r : Picture) (palette vram oam : List ℕ) (y x colour : ℕ) (w : Windows) (b : Blending) (ranks : Ranks)
    (dots : Dots)
    → is_blank r ≡ false → w ≡ windows_of r y → b ≡ blending_of r → ranks ≡ ranks_of r
    → dots ≡ layers_dots r vram oam y x
    → colour ≡ colour_of_dots palette w b ranks x dots → colour ≡ mixed_pixel r palette vram oam y x
unfolding mixed_pixel
seen r palette vram oam y x colour w b ranks dots off w_is b_is ranks_are dots_are e = rw off (cc)

pub same_dots : (a b : Dots) → a.sprite ≡ b.sprite → a.background0 ≡ b.background0 → a.background1 ≡ b.background1
    → a.background2 ≡ b.background2 → a.background3 ≡ b.background3 → a ≡ b
same_dots a b s e f g h =
    ap (λ v. record a { sprite = v }) s
    ∙ ap (λ v. record a { sprite = b.sprite; background0 = v }) e
    ∙ ap (λ v. record a { sprite = b.sprite; background0 = b.background0; background1 = v }) f
    ∙ ap (λ v. record b { background2 = v; background3 = a.background3 }) g
    ∙ ap (λ v. record b { background3 = v }) h

-- where no layer is on, there is no dot
no_dots : Dots
no_dots = record {
  sprite = clear_dot;
  background0 = clear_dot;
  background1 = clear_dot;
  background2 = clear_dot;
  background3 = clear_dot;
}

no_background : (r : Picture) (vram : List ℕ) (background y x : ℕ) → is_layer_on r background ≡ false
    → background_dot r vram background y x ≡ clear_dot
unfolding background_dot
no_background r vram background y x off = rw off refl

no_sprites : (r : Picture) (vram oam : List ℕ) (y x : ℕ) → is_layer_on r 4 ≡ false
    → sprites_dot r vram oam y x ≡ clear_dot
unfolding sprites_dot
no_sprites r vram oam y x off = rw off refl

none_by : (r : Picture) (vram oam : List ℕ) (y x : ℕ) (a b c d e : Bool) → is_layer_on r 0 ≡ a → is_layer_on r 1 ≡ b
    → is_layer_on r 2 ≡ c → is_layer_on r 3 ≡ d → is_layer_on r 4 ≡ e → (a || b || c || d || e) ≡ false
    → layers_dots r vram oam y x ≡ no_dots
unfolding no_dots
none_by r vram oam y x true b c d e f g h i j off = absurd (true≢false off)
none_by r vram oam y x false true c d e f g h i j off = absurd (true≢false off)
none_by r vram oam y x false false true d e f g h i j off = absurd (true≢false off)
none_by r vram oam y x false false false true e f g h i j off = absurd (true≢false off)
none_by r vram oam y x false false false false true f g h i j off = absurd (true≢false off)
none_by r vram oam y x false false false false false f g h i j off =
    same_dots _ _ (no_sprites r vram oam y x j) (no_background r vram 0 y x f) (no_background r vram 1 y x g)
    (no_background r vram 2 y x h) (no_background r vram 3 y x i)

none : (r : Picture) (vram oam : List ℕ) (y x : ℕ) → has_layers r ≡ false → layers_dots r vram oam y x ≡ no_dots
none r vram oam y x off = none_by r vram oam y x _ _ _ _ _ refl refl refl refl refl off

-- and the backdrop is seen, with nothing behind it
bare : (shows : ℕ) (ranks : Ranks) → stack_of shows ranks no_dots ≡ bottom
unfolding stack_of front_of with_dot no_dots
bare shows ranks = refl

bare_colour : (palette : List ℕ) (b : Blending) (shows : ℕ) → bit b.second_targets 6 ≡ false
    → stack_colour palette b (bit shows 5) no_dots bottom ≡ backdrop_colour palette b shows
unfolding stack_colour dot_of
bare_colour palette b shows off = rw off refl

pub no_target : (b : Blending) → b.second_targets < 64 → bit b.second_targets 6 ≡ false
no_target b few = grind (arith, few)

unlayered : (palette : List ℕ) (w : Windows) (b : Blending) (ranks : Ranks) (x : ℕ) → b.second_targets < 64
    → colour_of_dots palette w b ranks x no_dots ≡ backdrop_colour palette b (shows_at w x false)
unfolding colour_of_dots no_dots
unlayered palette w b ranks x few =
    ap (stack_colour palette b (bit (shows_at w x false) 5) no_dots) (bare (shows_at w x false) ranks)
    ∙ bare_colour palette b (shows_at w x false) (no_target b few)

pub unseen : (r : Picture) (palette vram oam : List ℕ) (y x colour : ℕ) (w : Windows) (b : Blending)
    → is_blank r ≡ false → has_layers r ≡ false → w ≡ windows_of r y → b ≡ blending_of r → b.second_targets < 64
    → colour ≡ backdrop_colour palette b (shows_at w x false) → colour ≡ mixed_pixel r palette vram oam y x
unseen r palette vram oam y x colour w b shown off w_is b_is few e =
    seen r palette vram oam y x colour w b (ranks_of r) no_dots shown w_is b_is refl (sym (none r vram oam y x off))
    (e ∙ sym (unlayered palette w b (ranks_of r) x few))
