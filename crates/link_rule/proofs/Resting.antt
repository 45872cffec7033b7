-- What a seat of all players knows, and what it reads.
use Rattle.std.specs.Prelude.{List, [], ◌∷◌, length, Some, slice_get, slice_index}
use Rattle.std.proofs.Common.{ℕ, ◌≡◌, ◌+◌, ◌<◌, arith, refl, sym, ap, ◌∙◌, subst}
use mathlib.Core.Option.{some, none}
use lib.ListN.{get_elem?}
use Rattle.atomic_table.specs.Table.{Allows, step}
use Rattle.link_script.specs.Script.{Script}
use Rattle.link_rule.specs.declared.view.Progress.{Progress}
use Rattle.link_rule.specs.declared.view.View.{View}
use Rattle.link_rule.specs.Rule.{IsPlaced, Shows, KnowsOf, Ruled, holds}
use Rattle.link_rule.specs.Steps.{Met, Rests, rests}

-- record q of a seat that plays from player 0 on is that of player q
record IsOf {K : Type 0} (text : K → Script) (key other : K) (made : ℕ → Progress) (q : ℕ) (x : Progress) : Type 0 where
  key_is : other ≡ key
  player : q < (text key).players
  made_is : made q ≡ x

is_of : {K : Type 0} (text : K → Script) (key other : K) (words : List ℕ) (views : List (View K)) (id : ℕ) (v : View K)
    (h : Ruled text key words views) → get_elem? views id ≡ some v → v.key ≡ other ∷ [] → v.first ≡ 0 → (q : ℕ)
    (x : Progress) → slice_get v.records q ≡ Some x → IsOf text key other h.made q x
is_of text key other words views id v h at keys first q x there =
    let s = h.seats id v at q x there in
    let place : v.first + q ≡ q = omega arith in
    let both : other ∷ [] ≡ key ∷ [] = sym keys ∙ s.key_is in
    record {
      key_is = cc;
      player = subst (λ (n : ℕ). n < (text key).players) place s.player;
      made_is = ap h.made (sym place) ∙ sym s.made_is;
    }

met : {K : Type 0} (text : K → Script) (key other : K) (words : List ℕ) (views : List (View K)) (id : ℕ) (v : View K)
    → Ruled text key words views → get_elem? views id ≡ some v → v.key ≡ other ∷ [] → v.first ≡ 0
    → length v.records ≡ (text other).players → Met (text other) v.records
met {K = K} text key other words views id v h at keys first count = record {
  count_is = count;
  placed = λ i r there.
      let a = is_of text key other words views id v h at keys first i r there in
      subst (λ (k : K). IsPlaced (text k) i r) (sym a.key_is)
      (subst (λ (p : Progress). IsPlaced (text key) i p) a.made_is (h.shows i a.player).placed);
  knows = λ i j r o there that apart.
      let a = is_of text key other words views id v h at keys first i r there in
      let b = is_of text key other words views id v h at keys first j o that in
      subst (λ (k : K). KnowsOf (text k) i j r o) (sym a.key_is)
      (subst (λ (p : Progress). KnowsOf (text key) i j p o) a.made_is
      (subst (λ (p : Progress). KnowsOf (text key) i j (h.made i) p) b.made_is (h.knows i j a.player b.player apart)));
}

reads : {K : Type 0} (text : K → Script) (key other : K) (words : List ℕ) (views : List (View K)) (id : ℕ) (v : View K)
    (word : ℕ) → Ruled text key words views → get_elem? views id ≡ some v → v.key ≡ other ∷ [] → v.first ≡ 0
    → (j : ℕ) (o : Progress) → slice_get v.records j ≡ Some o → Rests (text other) j o word (slice_index words word)
reads {K = K} text key other words views id v word h at keys first j o there =
    let a = is_of text key other words views id v h at keys first j o there in
    let shows : Shows (text other) words j o
    = subst (λ (k : K). Shows (text k) words j o) (sym a.key_is)
    (subst (λ (p : Progress). Shows (text key) words j p) a.made_is (h.shows j a.player)) in
    record {
      clock = λ e. ap (slice_index words) e ∙ shows.clock_is;
      head = λ n x is below near e. ap (slice_index words) e ∙ (shows.ring n x is below near).head;
      body = λ n x is below near e. ap (slice_index words) e ∙ (shows.ring n x is below near).body;
    }

-- any load of such a seat is allowed
pub rest_allowed : {S K : Type 0} (text : K → Script) (key : K) (slots id word : ℕ) (v : View K)
    → Allows {S = S} (holds text key) slots id (v, []) word (λ n. n)
    (rests text (step slots word 0 0 none) (v, []))
rest_allowed {S = S} {K = K} text key slots id word v =
    Rattle.link_rule.proofs.Allowed.allow_still text key slots id word v
    (rests text (step slots word 0 0 none) (v, []))
    (λ words views h at. (
      refl,
      (λ other keys first count. met text key other words views id v h at keys first count),
      (λ other j o keys first there. reads text key other words views id v word h at keys first j o there),
    ))
