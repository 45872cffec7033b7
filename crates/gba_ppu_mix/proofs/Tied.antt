-- A painted stack has the layers of the stack, with their colours and marks.
use Rattle.std.proofs.Common.{◌≡◌, ℕ, ◌<◌, ◌≤◌, Bool, true, false, List, refl, sym, ◌∙◌, arith, subst}
use Rattle.std.specs.Prelude.{◌&&◌, nat_lt, if◌then◌else◌}
use Rattle.std.proofs.lemmas.Bool.{le-ltb, lt-ltb, ltb-true}
use Rattle.gba_terms.specs.Bits.{bit}
use Rattle.gba_ppu_dot.specs.Paints.{colour_of, paint_of, palette_colour}
use Rattle.gba_ppu_dot.specs.declared.dot.Dot.{Dot}
use Rattle.gba_ppu_mix.specs.Blending.{is_semi, is_target, stack_colour}
use Rattle.gba_ppu_mix.specs.Painting.{PaintedCandidate, PaintedStack, Place, constants_of, marks_of, painted_bottom, painted_candidate, painted_front_of, painted_nearer, painted_stack_colour, painted_stack_of, seen_rank, unseen_rank, with_painted_candidate}
use Rattle.gba_ppu_mix.specs.Stacks.{Candidate, Dots, Stack, bottom, dot_of, front_of, layer_bit, nearer, nothing_rank, sprite_rank, stack_of, with_candidate, with_dot}
use Rattle.gba_ppu_mix.specs.declared.blending.Blending.{Blending}
use Rattle.gba_ppu_mix.specs.declared.stacks.Layer.{Layer}
use Rattle.gba_ppu_mix.specs.declared.stacks.Layer.TheVariants.{Background0, Background1, Background2, Background3, Sprites, Backdrop}
use Rattle.gba_ppu_mix.specs.declared.stacks.Ranks.{Ranks}
use Rattle.gba_ppu_mix.proofs.Marks.{first_mark, second_mark, third_mark}

record IsBehind (palette : List ℕ) (b : Blending) (dots : Dots) (c : Candidate) (twin : PaintedCandidate) : Type 0 where
  rank : twin.rank ≡ c.rank
  colour : twin.colour ≡ colour_of palette (dot_of dots c.layer)
  second : bit twin.marks 1 ≡ is_target b.second_targets c.layer

record IsTwin (palette : List ℕ) (b : Blending) (dots : Dots) (c : Candidate) (twin : PaintedCandidate) : Type 0 where
  behind : IsBehind palette b dots c twin
  first : bit twin.marks 0 ≡ is_target b.first_targets c.layer
  semi : bit twin.marks 2 ≡ is_semi (dot_of dots c.layer).kind

pub record Tied (palette : List ℕ) (b : Blending) (dots : Dots) (s : Stack) (p : PaintedStack) : Type 0 where
  top : IsTwin palette b dots s.top p.top
  second : IsBehind palette b dots s.second p.second
  top_low : s.top.rank ≤ nothing_rank
  second_low : s.second.rank ≤ nothing_rank

-- ---- a layer that isn't seen

unseen_by : (new : PaintedCandidate) (p : PaintedStack) → nat_lt new.rank p.top.rank ≡ false
    → nat_lt new.rank p.second.rank ≡ false → with_painted_candidate new p ≡ p
unfolding with_painted_candidate
unseen_by new p e f = rw (e, f) refl

unseen : (palette : List ℕ) (b : Blending) (dots : Dots) (new : PaintedCandidate) (s : Stack) (p : PaintedStack)
    → new.rank ≡ unseen_rank → Tied palette b dots s p
    → with_painted_candidate new p ≡ p
unseen palette b dots new s p e tied =
    let t = tied.top.behind.rank in
    let u = tied.second.rank in
    let low = tied.top_low in
    let low2 = tied.second_low in
    unseen_by new p (le-ltb new.rank p.top.rank (omega (arith, e, t, low)))
    (le-ltb new.rank p.second.rank (omega (arith, e, u, low2)))

-- ---- a layer that is seen

tie_second : (palette : List ℕ) (b : Blending) (dots : Dots) (c : Candidate) (twin : PaintedCandidate) (s : Stack)
    (p : PaintedStack) (w : Bool)
    → nat_lt c.rank s.second.rank ≡ w → IsTwin palette b dots c twin → Tied palette b dots s p
    → Tied palette b dots record { top = s.top; second = nearer c s.second } record {
      top = p.top;
      second =
          painted_nearer twin p.second;
    }
tie_second palette b dots c twin s p true e is tied =
    let f : nat_lt twin.rank p.second.rank ≡ true = rw (is.behind.rank, tied.second.rank) e in
    let less = ltb-true c.rank s.second.rank e in
    let low = tied.second_low in
    rw (e, f) record {
      top = tied.top;
      second = is.behind;
      top_low = tied.top_low;
      second_low =
          omega (arith, less, low);
    }
tie_second palette b dots c twin s p false e is tied =
    let f : nat_lt twin.rank p.second.rank ≡ false = rw (is.behind.rank, tied.second.rank) e in
    rw (e, f) record { top = tied.top; second = tied.second; top_low = tied.top_low; second_low = tied.second_low }

tie_top : (palette : List ℕ) (b : Blending) (dots : Dots) (c : Candidate) (twin : PaintedCandidate) (s : Stack)
    (p : PaintedStack) (w : Bool)
    → nat_lt c.rank s.top.rank ≡ w → IsTwin palette b dots c twin → Tied palette b dots s p
    → Tied palette b dots (with_candidate c s) (with_painted_candidate twin p)
unfolding with_candidate with_painted_candidate
tie_top palette b dots c twin s p true e is tied =
    let f : nat_lt twin.rank p.top.rank ≡ true = rw (is.behind.rank, tied.top.behind.rank) e in
    let less = ltb-true c.rank s.top.rank e in
    let low = tied.top_low in
    rw (e, f) record { top = is; second = tied.top.behind; top_low = omega (arith, less, low); second_low = low }
tie_top palette b dots c twin s p false e is tied =
    let f : nat_lt twin.rank p.top.rank ≡ false = rw (is.behind.rank, tied.top.behind.rank) e in
    rw (e, f) (tie_second palette b dots c twin s p (nat_lt c.rank s.second.rank) refl is tied)

-- ---- a layer by its paint

pub record IsPainted (palette : List ℕ) (b : Blending) (dots : Dots) (layer : Layer) (paint marks : ℕ) : Type 0 where
  pub same : paint ≡ paint_of palette (dot_of dots layer)
  pub fits : colour_of palette (dot_of dots layer) < 0x8000
  pub first : bit marks 0 ≡ is_target b.first_targets layer
  pub second : bit marks 1 ≡ is_target b.second_targets layer
  pub semi : bit marks 2 ≡ is_semi (dot_of dots layer).kind

hidden_rank : (paint shows place rank : ℕ) → bit shows place ≡ false → seen_rank paint shows place rank ≡ unseen_rank
hidden_rank paint shows place rank e = rw e (same (nat_lt paint 0x8000) unseen_rank)
  where
    same : (t : Bool) (n : ℕ) → (if t then n else n) ≡ n
    same true n = refl
    same false n = refl

clear_rank : (paint shows place rank : ℕ) → paint ≡ 0x8000 → seen_rank paint shows place rank ≡ unseen_rank
clear_rank paint shows place rank e = rw e refl

shown_rank : (paint shows place rank : ℕ) → paint < 0x8000 → bit shows place ≡ true
    → seen_rank paint shows place rank ≡ rank
shown_rank paint shows place rank h e = rw (lt-ltb paint 0x8000 h, e) refl

unpainted : (palette : List ℕ) (d : Dot) → d.opaque ≡ false → paint_of palette d ≡ 0x8000
unpainted palette d e = rw e refl

painted : (palette : List ℕ) (d : Dot) → d.opaque ≡ true → paint_of palette d ≡ colour_of palette d
painted palette d e = rw e refl

not_with : (shows : ℕ) (layer : Layer) (rank : ℕ) (d : Dot) (s : Stack)
    → (d.opaque && bit shows (layer_bit layer)) ≡ false
    → with_dot shows layer rank d s ≡ s
unfolding with_dot
not_with shows layer rank d s e = rw e refl

with_one : (shows : ℕ) (layer : Layer) (rank : ℕ) (d : Dot) (s : Stack)
    → (d.opaque && bit shows (layer_bit layer)) ≡ true
    → with_dot shows layer rank d s ≡ with_candidate record { rank = rank; layer = layer } s
unfolding with_dot
with_one shows layer rank d s e = rw e refl

step_by : (palette : List ℕ) (b : Blending) (dots : Dots) (shows : ℕ) (layer : Layer) (rank marks paint : ℕ) (s : Stack)
    (p : PaintedStack) (o t : Bool)
    → (dot_of dots layer).opaque ≡ o → bit shows (layer_bit layer) ≡ t → IsPainted palette b dots layer paint marks
    → Tied palette b dots s p
    → Tied palette b dots (with_dot shows layer rank (dot_of dots layer) s)
    (with_painted_candidate (painted_candidate shows (layer_bit layer) rank marks paint) p)
step_by palette b dots shows layer rank marks paint s p false t e f is tied =
    let new = painted_candidate shows (layer_bit layer) rank marks paint in
    let off : ((dot_of dots layer).opaque && bit shows (layer_bit layer)) ≡ false = rw e refl in
    let clear = is.same ∙ unpainted palette (dot_of dots layer) e in
    let P : Stack → Type 0 = λ v. Tied palette b dots v (with_painted_candidate new p) in
    let Q : PaintedStack → Type 0 = λ v. Tied palette b dots s v in
    subst P (sym (not_with shows layer rank (dot_of dots layer) s off))
    (subst Q (sym (unseen palette b dots new s p (clear_rank paint shows (layer_bit layer) rank clear) tied)) tied)
step_by palette b dots shows layer rank marks paint s p true false e f is tied =
    let new = painted_candidate shows (layer_bit layer) rank marks paint in
    let off : ((dot_of dots layer).opaque && bit shows (layer_bit layer)) ≡ false = rw (e, f) refl in
    let P : Stack → Type 0 = λ v. Tied palette b dots v (with_painted_candidate new p) in
    let Q : PaintedStack → Type 0 = λ v. Tied palette b dots s v in
    subst P (sym (not_with shows layer rank (dot_of dots layer) s off))
    (subst Q (sym (unseen palette b dots new s p (hidden_rank paint shows (layer_bit layer) rank f) tied)) tied)
step_by palette b dots shows layer rank marks paint s p true true e f is tied =
    let new = painted_candidate shows (layer_bit layer) rank marks paint in
    let c : Candidate = record { rank = rank; layer = layer } in
    let on : ((dot_of dots layer).opaque && bit shows (layer_bit layer)) ≡ true = rw (e, f) refl in
    let same = is.same ∙ painted palette (dot_of dots layer) e in
    let fits = is.fits in
    let less : paint < 0x8000 = omega (arith, same, fits) in
    let twin : IsTwin palette b dots c new = record {
      behind = record {
        rank = shown_rank paint shows (layer_bit layer) rank less f;
        colour = same;
        second =
            is.second;
      };
      first = is.first;
      semi = is.semi;
    } in
    let P : Stack → Type 0 = λ v. Tied palette b dots v (with_painted_candidate new p) in
    subst P (sym (with_one shows layer rank (dot_of dots layer) s on))
    (tie_top palette b dots c new s p (nat_lt rank s.top.rank) refl twin tied)

step : (palette : List ℕ) (b : Blending) (dots : Dots) (shows : ℕ) (layer : Layer) (rank marks paint : ℕ) (s : Stack)
    (p : PaintedStack)
    → IsPainted palette b dots layer paint marks → Tied palette b dots s p
    → Tied palette b dots (with_dot shows layer rank (dot_of dots layer) s)
    (with_painted_candidate (painted_candidate shows (layer_bit layer) rank marks paint) p)
step palette b dots shows layer rank marks paint s p is tied =
    step_by palette b dots shows layer rank marks paint s p _ _ refl refl is tied

-- ---- all layers

pub record ArePainted (palette : List ℕ) (b : Blending) (dots : Dots) (p : Place) : Type 0 where
  pub sprite : IsPainted palette b dots Sprites p.sprite p.sprite_marks
  pub sprite_rank : p.sprite_rank ≡ sprite_rank dots.sprite.priority
  pub background0 : IsPainted palette b dots Background0 p.background0 (marks_of b Background0 false)
  pub background1 : IsPainted palette b dots Background1 p.background1 (marks_of b Background1 false)
  pub background2 : IsPainted palette b dots Background2 p.background2 (marks_of b Background2 false)
  pub background3 : IsPainted palette b dots Background3 p.background3 (marks_of b Background3 false)

bare : (palette : List ℕ) (b : Blending) (ranks : Ranks) (dots : Dots) → bit b.second_targets 6 ≡ false
    → Tied palette b dots bottom (painted_bottom (constants_of b ranks (palette_colour palette 0)))
unfolding dot_of colour_of
bare palette b ranks dots few = record {
  top = record {
    behind = record {
      rank = refl;
      colour = refl;
      second =
          second_mark (is_target b.first_targets Backdrop) (is_target b.second_targets Backdrop) false;
    };
    first = first_mark (is_target b.first_targets Backdrop) (is_target b.second_targets Backdrop) false;
    semi = third_mark (is_target b.first_targets Backdrop) (is_target b.second_targets Backdrop) false;
  };
  second = record { rank = refl; colour = refl; second = sym few };
  top_low = omega arith;
  second_low = omega arith;
}

whole : (palette : List ℕ) (b : Blending) (ranks : Ranks) (dots : Dots) (p : Place) → bit b.second_targets 6 ≡ false
    → ArePainted palette b dots p
    → Tied palette b dots (stack_of p.shows ranks dots)
    (painted_stack_of (constants_of b ranks (palette_colour palette 0)) p)
unfolding stack_of front_of painted_stack_of painted_front_of dot_of
whole palette b ranks dots p few are =
    let c = constants_of b ranks (palette_colour palette 0) in
    let P : ℕ → Type 0 =
    λ rank. Tied palette b dots (with_dot p.shows Sprites (sprite_rank dots.sprite.priority) dots.sprite bottom)
    (with_painted_candidate (painted_candidate p.shows 4 rank p.sprite_marks p.sprite) (painted_bottom c)) in
    let front = subst P (sym are.sprite_rank)
    (step palette b dots p.shows Sprites (sprite_rank dots.sprite.priority) p.sprite_marks p.sprite bottom
    (painted_bottom c) are.sprite
    (bare palette b ranks dots few)) in
    step palette b dots p.shows Background3 ranks.background3 c.marks3 p.background3 _ _ are.background3
    (step palette b dots p.shows Background2 ranks.background2 c.marks2 p.background2 _ _ are.background2
    (step palette b dots p.shows Background1 ranks.background1 c.marks1 p.background1 _ _ are.background1
    (step palette b dots p.shows Background0 ranks.background0 c.marks0 p.background0 _ _ are.background0 front)))

same_colour : (palette : List ℕ) (b : Blending) (dots : Dots) (shows : ℕ) (s : Stack) (p : PaintedStack)
    → Tied palette b dots s p
    → painted_stack_colour b shows p ≡ stack_colour palette b (bit shows 5) dots s
unfolding painted_stack_colour stack_colour
same_colour palette b dots shows s p tied =
    rw (tied.top.behind.colour, tied.second.colour, tied.top.first, tied.top.semi, tied.second.second) refl

pub colour_is : (palette : List ℕ) (b : Blending) (ranks : Ranks) (dots : Dots) (p : Place)
    → bit b.second_targets 6 ≡ false
    → ArePainted palette b dots p
    → painted_stack_colour b p.shows (painted_stack_of (constants_of b ranks (palette_colour palette 0)) p)
    ≡ stack_colour palette b (bit p.shows 5) dots (stack_of p.shows ranks dots)
colour_is palette b ranks dots p few are =
    same_colour palette b dots p.shows _ _ (whole palette b ranks dots p few are)
