-- The two foremost candidates of a stack.
use Rattle.std.proofs.Common.{◌≡◌, ℕ, ◌+◌, ◌<◌, ◌≤◌, ◌⊎◌, Bool, true, false, nat_lt, List, [], ◌∷◌, ⊎_elim, inl, inr, ap, sym, ◌∙◌, refl, subst, arith}
use Rattle.std.proofs.lemmas.Bool.{ltb-true, ltb-false}
use Rattle.gba_ppu_dot.specs.declared.dot.Dot.{Dot}
use Rattle.gba_ppu_mix.specs.Foremost.{HasForemost, HasTwoLayers, IsOneOf, and_if, and_layer, candidates_of, front_candidates, is_candidate}
use Rattle.gba_ppu_mix.specs.Stacks.{Candidate, Dots, Stack, bottom, front_of, nearer, sprite_rank, stack_of, with_candidate, with_dot}
use Rattle.gba_ppu_mix.specs.declared.stacks.Layer.{Layer}
use Rattle.gba_ppu_mix.specs.declared.stacks.Layer.TheVariants.{Background0, Background1, Background2, Background3, Sprites, Backdrop, Nothing}
use Rattle.gba_ppu_mix.specs.declared.stacks.Ranks.{Ranks}

all : List Candidate → Stack
all [] = bottom
all (c ∷ cs) = with_candidate c (all cs)

in_front_of : (c : Candidate) (s : Stack) → nat_lt c.rank s.top.rank ≡ true
    → with_candidate c s ≡ record { top = c; second = s.top }
unfolding with_candidate
in_front_of c s e = rw e refl

behind_top : (c : Candidate) (s : Stack) → nat_lt c.rank s.top.rank ≡ false
    → with_candidate c s ≡ record { top = s.top; second = nearer c s.second }
unfolding with_candidate
behind_top c s e = rw e refl

same_rank : (a b : Candidate) → a ≡ b → a.rank ≡ b.rank
same_rank a b e = ap (λ (c : Candidate). c.rank) e

new_top : (c : Candidate) (cs : List Candidate) (s : Stack) → c.rank < s.top.rank → HasForemost cs s
    → HasForemost (c ∷ cs) record { top = c; second = s.top }
new_top c cs s less h =
    let backdrop = h.before_backdrop in
    record {
      top = inr (inl refl);
      second = ⊎_elim (λ (e : s.top ≡ bottom.top). inr (inl e)) (λ (o : IsOneOf s.top cs). inr (inr (inr o))) h.top;
      in_front = λ d o.
          ⊎_elim
          (λ (e : d ≡ c). let f = same_rank d c e in omega (arith, f))
          (λ (i : IsOneOf d cs). let f = h.in_front d i in omega (arith, f))
          o;
      before_backdrop = omega (arith, backdrop);
      next = λ d o.
          ⊎_elim (λ (e : d ≡ c). inl e) (λ (i : IsOneOf d cs). inr (h.in_front d i)) o;
      next_backdrop = inr backdrop;
      order = omega arith;
    }

new_second : (c : Candidate) (cs : List Candidate) (s : Stack) → s.top.rank ≤ c.rank → c.rank < s.second.rank
    → HasForemost cs s → HasForemost (c ∷ cs) record { top = s.top; second = c }
new_second c cs s behind less h = record {
  top = ⊎_elim (λ (e : s.top ≡ bottom.top). inl e) (λ (o : IsOneOf s.top cs). inr (inr o)) h.top;
  second = inr (inr (inl refl));
  in_front = λ d o.
      ⊎_elim (λ (e : d ≡ c). let f = same_rank d c e in omega (arith, f)) (λ (i : IsOneOf d cs). h.in_front d i) o;
  before_backdrop = h.before_backdrop;
  next = λ d o.
      ⊎_elim
      (λ (e : d ≡ c). let f = same_rank d c e in inr (omega (arith, f)))
      (λ (i : IsOneOf d cs).
      ⊎_elim
      (λ (e : d ≡ s.top). inl e)
      (λ (f : s.second.rank ≤ d.rank). inr (omega arith))
      (h.next d i))
      o;
  next_backdrop =
      ⊎_elim
      (λ (e : bottom.top ≡ s.top). inl e)
      (λ (f : s.second.rank ≤ bottom.top.rank). inr (omega arith))
      h.next_backdrop;
  order = behind;
}

behind_both : (c : Candidate) (cs : List Candidate) (s : Stack) → s.top.rank ≤ c.rank → s.second.rank ≤ c.rank
    → HasForemost cs s → HasForemost (c ∷ cs) record { top = s.top; second = s.second }
behind_both c cs s behind least h = record {
  top = ⊎_elim (λ (e : s.top ≡ bottom.top). inl e) (λ (o : IsOneOf s.top cs). inr (inr o)) h.top;
  second =
      ⊎_elim
      (λ (e : s.second ≡ bottom.second). inl e)
      (λ (o : (s.second ≡ bottom.top) ⊎ IsOneOf s.second cs).
      ⊎_elim (λ (e : s.second ≡ bottom.top). inr (inl e)) (λ (i : IsOneOf s.second cs). inr (inr (inr i))) o)
      h.second;
  in_front = λ d o.
      ⊎_elim (λ (e : d ≡ c). let f = same_rank d c e in omega (arith, f)) (λ (i : IsOneOf d cs). h.in_front d i) o;
  before_backdrop = h.before_backdrop;
  next = λ d o.
      ⊎_elim
      (λ (e : d ≡ c). let f = same_rank d c e in inr (omega (arith, f)))
      (λ (i : IsOneOf d cs). h.next d i)
      o;
  next_backdrop = h.next_backdrop;
  order = h.order;
}

nearer_by : (c : Candidate) (cs : List Candidate) (s : Stack) (w : Bool) → nat_lt c.rank s.second.rank ≡ w
    → s.top.rank ≤ c.rank → HasForemost cs s → HasForemost (c ∷ cs) record { top = s.top; second = nearer c s.second }
nearer_by c cs s true e behind h =
    rw e (new_second c cs s behind (ltb-true c.rank s.second.rank e) h)
nearer_by c cs s false e behind h =
    rw e (behind_both c cs s behind (ltb-false c.rank s.second.rank e) h)

step : (c : Candidate) (cs : List Candidate) (s : Stack) (w : Bool) → nat_lt c.rank s.top.rank ≡ w
    → HasForemost cs s → HasForemost (c ∷ cs) (with_candidate c s)
step c cs s true e h =
    let P : Stack → Type 0 = λ t. HasForemost (c ∷ cs) t in
    subst P (sym (in_front_of c s e)) (new_top c cs s (ltb-true c.rank s.top.rank e) h)
step c cs s false e h =
    let P : Stack → Type 0 = λ t. HasForemost (c ∷ cs) t in
    subst P (sym (behind_top c s e))
    (nearer_by c cs s (nat_lt c.rank s.second.rank) refl (ltb-false c.rank s.top.rank e) h)

backdrop_alone : HasForemost [] bottom
backdrop_alone = record {
  top = inl refl;
  second = inl refl;
  in_front = λ c o. absurd o;
  before_backdrop = omega arith;
  next = λ c o. absurd o;
  next_backdrop = inl refl;
  order = omega arith;
}

of_all : (cs : List Candidate) → HasForemost cs (all cs)
unfolding all
of_all [] = backdrop_alone
of_all (c ∷ cs) = step c cs (all cs) (nat_lt c.rank (all cs).top.rank) refl (of_all cs)

-- the layers one after another are those candidates
layer_by : (shows : ℕ) (layer : Layer) (rank : ℕ) (dot : Dot) (cs : List Candidate) (w : Bool)
    → is_candidate shows layer dot ≡ w
    → with_dot shows layer rank dot (all cs) ≡ all (and_if w record { rank = rank; layer = layer } cs)
unfolding with_dot all
layer_by shows layer rank dot cs true e = rw e refl
layer_by shows layer rank dot cs false e = rw e refl

layer_more : (shows : ℕ) (layer : Layer) (rank : ℕ) (dot : Dot) (cs : List Candidate) (s : Stack) → s ≡ all cs
    → with_dot shows layer rank dot s ≡ all (and_layer shows layer rank dot cs)
layer_more shows layer rank dot cs s e =
    ap (with_dot shows layer rank dot) e ∙ layer_by shows layer rank dot cs (is_candidate shows layer dot) refl

none : bottom ≡ all []
unfolding all
none = refl

front_is : (shows : ℕ) (ranks : Ranks) (dots : Dots)
    → front_of shows ranks dots ≡ all (front_candidates shows ranks dots)
unfolding front_of
front_is shows ranks dots =
    layer_more shows Background1 ranks.background1 dots.background1 _ _
    (layer_more shows Background0 ranks.background0 dots.background0 _ _
    (layer_more shows Sprites (sprite_rank dots.sprite.priority) dots.sprite [] bottom none))

layers_are : (shows : ℕ) (ranks : Ranks) (dots : Dots)
    → stack_of shows ranks dots ≡ all (candidates_of shows ranks dots)
unfolding stack_of
layers_are shows ranks dots =
    layer_more shows Background3 ranks.background3 dots.background3 _ _
    (layer_more shows Background2 ranks.background2 dots.background2 _ _ (front_is shows ranks dots))

pub of_layers : (shows : ℕ) (ranks : Ranks) (dots : Dots)
    → HasForemost (candidates_of shows ranks dots) (stack_of shows ranks dots)
of_layers shows ranks dots =
    let P : Stack → Type 0 = λ t. HasForemost (candidates_of shows ranks dots) t in
    subst P (sym (layers_are shows ranks dots)) (of_all (candidates_of shows ranks dots))

-- The layers come in this order, and each comes once.
turn : Layer → ℕ
turn Nothing = 0
turn Backdrop = 1
turn Sprites = 2
turn Background0 = 3
turn Background1 = 4
turn Background2 = 5
turn Background3 = 6

-- the layers of a stack come before some turn, and are two
record AreTwoBefore (n : ℕ) (s : Stack) : Type 0 where
  top : turn s.top.layer < n
  second : turn s.second.layer < n
  two : turn s.top.layer ≡ turn s.second.layer → ⊥

two_later : (n : ℕ) (s : Stack) → AreTwoBefore n s → AreTwoBefore (n + 1) s
two_later n s h = record { top = omega (arith, h.top); second = omega (arith, h.second); two = h.two }

two_new_top : (c : Candidate) (s : Stack) → AreTwoBefore (turn c.layer) s
    → AreTwoBefore (turn c.layer + 1) record { top = c; second = s.top }
two_new_top c s h = record {
  top = omega arith;
  second = omega (arith, h.top);
  two = λ e. absurd (omega (arith, e, h.top));
}

two_new_second : (c : Candidate) (s : Stack) → AreTwoBefore (turn c.layer) s
    → AreTwoBefore (turn c.layer + 1) record { top = s.top; second = c }
two_new_second c s h = record {
  top = omega (arith, h.top);
  second = omega arith;
  two = λ e. absurd (omega (arith, e, h.top));
}

two_nearer : (c : Candidate) (s : Stack) (w : Bool) → nat_lt c.rank s.second.rank ≡ w → AreTwoBefore (turn c.layer) s
    → AreTwoBefore (turn c.layer + 1) record { top = s.top; second = nearer c s.second }
two_nearer c s true e h = rw e (two_new_second c s h)
two_nearer c s false e h = rw e (two_later (turn c.layer) s h)

two_by : (c : Candidate) (s : Stack) (w : Bool) → nat_lt c.rank s.top.rank ≡ w → AreTwoBefore (turn c.layer) s
    → AreTwoBefore (turn c.layer + 1) (with_candidate c s)
two_by c s true e h =
    let P : Stack → Type 0 = λ t. AreTwoBefore (turn c.layer + 1) t in
    subst P (sym (in_front_of c s e)) (two_new_top c s h)
two_by c s false e h =
    let P : Stack → Type 0 = λ t. AreTwoBefore (turn c.layer + 1) t in
    subst P (sym (behind_top c s e)) (two_nearer c s (nat_lt c.rank s.second.rank) refl h)

two_with_dot : (shows : ℕ) (layer : Layer) (rank : ℕ) (dot : Dot) (s : Stack) (w : Bool)
    → is_candidate shows layer dot ≡ w
    → AreTwoBefore (turn layer) s → AreTwoBefore (turn layer + 1) (with_dot shows layer rank dot s)
unfolding with_dot
two_with_dot shows layer rank dot s true e h =
    rw e (two_by record { rank = rank; layer = layer } s (nat_lt rank s.top.rank) refl h)
two_with_dot shows layer rank dot s false e h = rw e (two_later (turn layer) s h)

two_more : (shows : ℕ) (layer : Layer) (rank : ℕ) (dot : Dot) (s : Stack)
    → AreTwoBefore (turn layer) s → AreTwoBefore (turn layer + 1) (with_dot shows layer rank dot s)
two_more shows layer rank dot s h = two_with_dot shows layer rank dot s (is_candidate shows layer dot) refl h

two_at_bottom : AreTwoBefore 2 bottom
unfolding turn
two_at_bottom = record { top = omega arith; second = omega arith; two = λ e. absurd (omega (arith, e)) }

two_in_front : (shows : ℕ) (ranks : Ranks) (dots : Dots) → AreTwoBefore 5 (front_of shows ranks dots)
unfolding front_of turn
two_in_front shows ranks dots =
    two_more shows Background1 ranks.background1 dots.background1 _
    (two_more shows Background0 ranks.background0 dots.background0 _
    (two_more shows Sprites (sprite_rank dots.sprite.priority) dots.sprite bottom two_at_bottom))

two_of_all : (shows : ℕ) (ranks : Ranks) (dots : Dots) → AreTwoBefore 7 (stack_of shows ranks dots)
unfolding stack_of turn
two_of_all shows ranks dots =
    two_more shows Background3 ranks.background3 dots.background3 _
    (two_more shows Background2 ranks.background2 dots.background2 _ (two_in_front shows ranks dots))

pub two_layers : HasTwoLayers
two_layers shows ranks dots e = (two_of_all shows ranks dots).two (ap turn e)
