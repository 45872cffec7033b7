-- The colour at a place of painted lines.
use Rattle.std.proofs.Common.{◌≡◌, ℕ, ◌<◌, false, List, slice_index, refl, sym, ap, subst, ◌∙◌, true≢false}
use Rattle.gba_terms.specs.Bits.{bit}
use Rattle.gba_ppu_reg.specs.Registers.{Picture}
use Rattle.gba_ppu_dot.specs.Paints.{colour_of, paint_of, palette_colour}
use Rattle.gba_ppu_dot.specs.declared.dot.Dot.{Dot}
use Rattle.gba_ppu_mix.specs.Blending.{is_semi, is_target, stack_colour}
use Rattle.gba_ppu_mix.specs.Layers.{background_dot, sprites_dot}
use Rattle.gba_ppu_mix.specs.Mixing.{colour_of_dots, colour_where, layers_dots}
use Rattle.gba_ppu_mix.specs.Painting.{Place, constants_of, marks_of, painted_stack_colour, painted_stack_of, place_at}
use Rattle.gba_ppu_mix.specs.Stacks.{Dots, dot_of, sprite_rank, stack_of}
use Rattle.gba_ppu_mix.specs.Windows.{shows_at}
use Rattle.gba_ppu_mix.specs.declared.blending.Blending.{Blending}
use Rattle.gba_ppu_mix.specs.declared.paints.PaintedLines.{PaintedLines}
use Rattle.gba_ppu_mix.specs.declared.eights.LineConstants.{LineConstants}
use Rattle.gba_ppu_mix.specs.declared.stacks.Layer.{Layer}
use Rattle.gba_ppu_mix.specs.declared.stacks.Layer.TheVariants.{Background0, Background1, Background2, Background3, Sprites}
use Rattle.gba_ppu_mix.specs.declared.stacks.Ranks.{Ranks}
use Rattle.gba_ppu_mix.specs.declared.windows.Windows.{Windows}
use Rattle.gba_ppu_mix.proofs.Grounds.{IsGround, background_ground, colour_fits, sprites_not_direct}
use Rattle.gba_ppu_mix.proofs.Marks.{first_mark, second_mark, third_mark}
use Rattle.gba_ppu_mix.proofs.Pixels.{no_target}
use Rattle.gba_ppu_mix.proofs.Tied.{ArePainted, IsPainted, colour_is}

-- what the lines have at a place
pub record HasPaints (r : Picture) (palette vram oam : List ℕ) (y x : ℕ) (w : Windows) (b : Blending)
    (p : Place) : Type 0 where
  pub sprite : p.sprite ≡ paint_of palette (sprites_dot r vram oam y x)
  pub sprite_rank : p.sprite_rank ≡ sprite_rank (sprites_dot r vram oam y x).priority
  pub sprite_marks : p.sprite_marks ≡ marks_of b Sprites (is_semi (sprites_dot r vram oam y x).kind)
  pub shows : p.shows ≡ shows_at w x (sprites_dot r vram oam y x).window
  pub background0 : p.background0 ≡ paint_of palette (background_dot r vram 0 y x)
  pub background1 : p.background1 ≡ paint_of palette (background_dot r vram 1 y x)
  pub background2 : p.background2 ≡ paint_of palette (background_dot r vram 2 y x)
  pub background3 : p.background3 ≡ paint_of palette (background_dot r vram 3 y x)

-- a background's layer
ground : (palette : List ℕ) (b : Blending) (dots : Dots) (layer : Layer) (d : Dot) (paint : ℕ) → dot_of dots layer ≡ d
    → IsGround d
    → paint ≡ paint_of palette d → IsPainted palette b dots layer paint (marks_of b layer false)
ground palette b dots layer d paint is g e =
    let first = is_target b.first_targets layer in
    let second = is_target b.second_targets layer in
    let Fits : Dot → Type 0 = λ v. colour_of palette v < 0x8000 in
    record {
      same = e ∙ ap (paint_of palette) (sym is);
      fits = subst Fits (sym is) (colour_fits palette d g.fits);
      first = first_mark first second false;
      second = second_mark first second false;
      semi = third_mark first second false ∙ sym (ap is_semi g.kind) ∙ ap (λ (v : Dot). is_semi v.kind) (sym is);
    }

sprite : (palette : List ℕ) (b : Blending) (dots : Dots) (d : Dot) (paint marks : ℕ) → dot_of dots Sprites ≡ d
    → d.direct ≡ false
    → paint ≡ paint_of palette d → marks ≡ marks_of b Sprites (is_semi d.kind)
    → IsPainted palette b dots Sprites paint marks
sprite palette b dots d paint marks is g e m =
    let first = is_target b.first_targets Sprites in
    let second = is_target b.second_targets Sprites in
    let Fits : Dot → Type 0 = λ v. colour_of palette v < 0x8000 in
    record {
      same = e ∙ ap (paint_of palette) (sym is);
      fits = subst Fits (sym is) (colour_fits palette d (λ h. absurd (true≢false (sym h ∙ g))));
      first = ap (λ n. bit n 0) m ∙ first_mark first second (is_semi d.kind);
      second = ap (λ n. bit n 1) m ∙ second_mark first second (is_semi d.kind);
      semi = ap (λ n. bit n 2) m ∙ third_mark first second (is_semi d.kind) ∙ ap (λ (v : Dot). is_semi v.kind) (sym is);
    }

painted : (r : Picture) (palette vram oam : List ℕ) (y x : ℕ) (w : Windows) (b : Blending) (p : Place)
    → HasPaints r palette vram oam y x w b p → ArePainted palette b (layers_dots r vram oam y x) p
unfolding dot_of
painted r palette vram oam y x w b p has =
    let dots = layers_dots r vram oam y x in
    record {
      sprite = sprite palette b dots (sprites_dot r vram oam y x) p.sprite p.sprite_marks refl
          (sprites_not_direct r vram oam y x) has.sprite
          has.sprite_marks;
      sprite_rank = has.sprite_rank;
      background0 = ground palette b dots Background0 (background_dot r vram 0 y x) p.background0 refl
          (background_ground r vram 0 y x) has.background0;
      background1 = ground palette b dots Background1 (background_dot r vram 1 y x) p.background1 refl
          (background_ground r vram 1 y x) has.background1;
      background2 = ground palette b dots Background2 (background_dot r vram 2 y x) p.background2 refl
          (background_ground r vram 2 y x) has.background2;
      background3 = ground palette b dots Background3 (background_dot r vram 3 y x) p.background3 refl
          (background_ground r vram 3 y x) has.background3;
    }

of_dots : (palette : List ℕ) (w : Windows) (b : Blending) (ranks : Ranks) (x shows : ℕ) (dots : Dots)
    → shows ≡ shows_at w x dots.sprite.window
    → stack_colour palette b (bit shows 5) dots (stack_of shows ranks dots) ≡ colour_of_dots palette w b ranks x dots
unfolding colour_of_dots
of_dots palette w b ranks x shows dots e = ap (λ n. colour_where palette n b ranks dots) e

pub colour_at : (r : Picture) (palette vram oam : List ℕ) (y x : ℕ) (w : Windows) (b : Blending) (ranks : Ranks)
    (c : LineConstants) (lines : PaintedLines)
    → b.second_targets < 64 → c ≡ constants_of b ranks (palette_colour palette 0)
    → HasPaints r palette vram oam y x w b (place_at lines x)
    → painted_stack_colour b (slice_index lines.shows x) (painted_stack_of c (place_at lines x))
    ≡ colour_of_dots palette w b ranks x (layers_dots r vram oam y x)
colour_at r palette vram oam y x w b ranks c lines few is has =
    let p = place_at lines x in
    let dots = layers_dots r vram oam y x in
    ap (λ v. painted_stack_colour b p.shows (painted_stack_of v p)) is
    ∙ colour_is palette b ranks dots p (no_target b few) (painted r palette vram oam y x w b p has)
    ∙ of_dots palette w b ranks x p.shows dots has.shows
