-- The rule is kept when one seat of one player moves.
use Rattle.std.specs.Prelude.{List, [], ◌∷◌, length, Some, slice_get}
use Rattle.std.proofs.Common.{ℕ, zero, suc, ◌≡◌, ◌≢◌, ◌+◌, ◌<◌, inl, inr, arith, refl, sym, ap, ◌∙◌, subst, set}
use mathlib.Core.Option.{some}
use lib.ListN.{get_elem?}
use Rattle.atomic_table.proofs.Lists.{at_set}
use Rattle.link_order.proofs.Numbers.{put, put_same, put_other, same_or_apart}
use Rattle.link_script.specs.Script.{Script}
use Rattle.link_rule.specs.declared.view.Progress.{Progress}
use Rattle.link_rule.specs.declared.view.View.{View}
use Rattle.link_rule.specs.Words.{word_count}
use Rattle.link_rule.specs.Rule.{Shows, KnowsOf, IsSeated, Ruled, seat_of}

-- what the rule says of the player of a seat that plays one
pub record Here {K : Type 0} (text : K → Script) (key : K) (words : List ℕ) (views : List (View K)) (id : ℕ) (other : K)
    (i : ℕ) (r : Progress) (made : ℕ → Progress) (owner : ℕ → ℕ) : Type 0
  where
    pub same_key : other ≡ key
    pub player : i < (text key).players
    pub owned : owner i ≡ id
    pub made_is : made i ≡ r

pub here : {K : Type 0} (text : K → Script) (key : K) (words : List ℕ) (views : List (View K)) (id : ℕ) (other : K)
    (i : ℕ) (r : Progress) (h : Ruled text key words views) → get_elem? views id ≡ some (seat_of other i r)
    → Here text key words views id other i r h.made h.owner
here text key words views id other i r h at =
    let t = h.seats id (seat_of other i r) at zero r refl in
    let place : i + 0 ≡ i = omega arith in
    let keys : other ∷ [] ≡ key ∷ [] = t.key_is in
    record {
      same_key = cc;
      player = omega (arith, t.player);
      owned = ap h.owner (sym place) ∙ t.owned;
      made_is = ap h.made (sym place) ∙ sym t.made_is;
    }

-- a fact of each player, where one has changed
put_case : (P : ℕ → Progress → Type 0) (i : ℕ) (y : Progress) (f : ℕ → Progress) (a : ℕ) → P i y → (a ≢ i → P a (f a))
    → P a (put i y f a)
put_case P i y f a own other =
    elim (same_or_apart a i) [
      | inl e ↦ subst (λ (z : ℕ). P z (put i y f z)) (sym e) (subst (P i) (sym (put_same i y f)) own)
      | inr n ↦ subst (P a) (sym (put_other i a y f n)) (other n)
    ]

one_record : (r x : Progress) (q : ℕ) → slice_get (r ∷ []) q ≡ Some x → (q ≡ 0) × (x ≡ r)
one_record r x zero e = (refl, cc)
one_record r x (suc q) e = cc

seated_here : {K : Type 0} (key : K) (made : ℕ → Progress) (owner : ℕ → ℕ) (players id i q : ℕ) (r x : Progress)
    → i < players → owner i ≡ id → slice_get (r ∷ []) q ≡ Some x
    → IsSeated key (put i r made) owner players id (seat_of key i r) q x
seated_here key made owner players id i q r x below owned e =
    let one = one_record r x q e in
    let place : i + q ≡ i = omega (arith, one.0) in
    record {
      key_is = refl;
      player = omega arith;
      owned = ap owner place ∙ owned;
      made_is = one.1 ∙ sym (put_same i r made) ∙ ap (put i r made) (sym place);
    }

seated_there : {K : Type 0} (key : K) (made : ℕ → Progress) (owner : ℕ → ℕ) (players id other i q : ℕ) (v : View K)
    (y x : Progress) → other ≢ id → owner i ≡ id → IsSeated key made owner players other v q x
    → IsSeated key (put i y made) owner players other v q x
seated_there key made owner players id other i q v y x apart owned s =
    let away : v.first + q ≢ i = λ e. apart (sym s.owned ∙ ap owner e ∙ owned) in
    record {
      key_is = s.key_is;
      player = s.player;
      owned = s.owned;
      made_is = s.made_is ∙ sym (put_other i (v.first + q) y made away);
    }

-- the rule after a step of the seat `id`, which plays player i: it goes by the words and the new progress of i, and by
-- what i knows of the others and they of it
pub moved : {K : Type 0} (text : K → Script) (key : K) (words other : List ℕ) (views : List (View K)) (id i : ℕ)
    (r y : Progress) (h : Ruled text key words views) → get_elem? views id ≡ some (seat_of key i r)
    → length other ≡ word_count → Shows (text key) other i y
    → ((j : ℕ) → j < (text key).players → j ≢ i → Shows (text key) other j (h.made j))
    → ((j : ℕ) → j < (text key).players → j ≢ i → KnowsOf (text key) i j y (h.made j))
    → ((j : ℕ) → j < (text key).players → j ≢ i
    → KnowsOf (text key) j i (h.made j) y)
    → Ruled text key other (set views id (seat_of key i y))
moved {K = K} text key words other views id i r y h at wide own others knows known =
    let s : Script = text key in
    let me = here text key words views id key i r h at in
    record {
      made = put i y h.made;
      owner = h.owner;
      sound = h.sound;
      wide = wide;
      shows = λ a below. put_case (λ b p. Shows s other b p) i y h.made a own (λ apart. others a below apart);
      knows = λ a b la lb apart.
          put_case (λ c p. c ≢ b → KnowsOf s c b p (put i y h.made b)) i y h.made a
          (λ away. put_case (λ c p. c ≢ i → KnowsOf s i c y p) i y h.made b
          (λ never. absurd (never refl)) (λ n m. knows b lb n) (λ e. away (sym e)))
          (λ n away. put_case (λ c p. c ≢ a → KnowsOf s a c (h.made a) p) i y h.made b
          (λ m. known a la n) (λ n2 m. h.knows a b la lb apart) (λ e. away (sym e)))
          apart;
      seats = λ c v e q x there.
          elim (at_set views id c (seat_of key i y) v e) [
            | inl t ↦
                subst (λ (z : ℕ). IsSeated key (put i y h.made) h.owner s.players z v q x) (sym t.0)
                (subst (λ (w : View K). slice_get w.records q ≡ Some x
                → IsSeated key (put i y h.made) h.owner s.players id w q x) t.1
                (λ there2. seated_here key h.made h.owner s.players id i q y x me.player me.owned there2) there)
            | inr t ↦
                seated_there key h.made h.owner s.players id c i q v y x t.0 me.owned (h.seats c v t.1 q x there)
          ];
    }
