-- From the rule to what the table asks of a step.
use Rattle.std.specs.Prelude.{List, [], ◌∷◌, slice_index}
use Rattle.std.proofs.Common.{ℕ, ◌≡◌, sym, ap, ◌∙◌, subst, set}
use Rattle.std.proofs.lemmas.List.{set-get_or}
use mathlib.Core.Option.{some}
use lib.ListN.{get_elem?}
use Rattle.atomic_table.specs.Table.{Me, Allows, keeps}
use Rattle.atomic_table.proofs.Lists.{set_again}
use Rattle.link_script.specs.Script.{Script}
use Rattle.link_rule.specs.declared.view.Progress.{Progress}
use Rattle.link_rule.specs.declared.view.View.{View}
use Rattle.link_rule.specs.Rule.{Ruled, seat_of, holds}
use Rattle.link_rule.specs.Steps.{Becomes}
use Rattle.link_rule.proofs.Kept.{here}

-- what a step of a seat of one player makes
pub record Stepped {K : Type 0} (text : K → Script) (key : K) (words : List ℕ) (views : List (View K)) (id i : ℕ)
    (Tells : Progress → Type 0) : Type 0
  where
    pub new : Progress
    pub rule : Ruled text key words (set views id (seat_of key i new))
    pub tells : Tells new

-- a step is allowed where it keeps the rule under the table's own key, which is the seat's
pub allow : {S K : Type 0} (text : K → Script) (key other : K) (slots id i word : ℕ) (r : Progress) (f : ℕ → ℕ)
    (told_of : ℕ → Me S (View K) → Type 0) (Tells : K → ℕ → Progress → Type 0)
    → ((words : List ℕ) (views : List (View K)) → Ruled text key words views
    → get_elem? views id ≡ some (seat_of key i r) → other ≡ key
    → Stepped text key (set words word (f (slice_index words word))) views id i (Tells key (slice_index words word)))
    → ((n : ℕ) (new : Progress) → Tells other n new → told_of n (seat_of other i new, []))
    → Allows (holds text key) slots id (seat_of other i r, []) word f told_of
allow {S = S} {K = K} text key other slots id i word r f told_of Tells core tell st h homes at small =
    let me = here text key st.words st.views id other i r h at in
    let e : other ≡ key = me.same_key in
    let at2 : get_elem? st.views id ≡ some (seat_of key i r) = at ∙ ap (λ (k : K). some (seat_of k i r)) e in
    let t = core st.words st.views h at2 e in
    let n : ℕ = slice_index st.words word in (
      seat_of other i t.new,
      keeps,
      tt,
      subst (λ (k : K). Ruled text key (set st.words word (f n)) (set st.views id (seat_of k i t.new))) (sym e) t.rule,
      tell n t.new (subst (λ (k : K). Tells k n t.new) (sym e) t.tells),
    )

-- a load that leaves the seat's view
pub allow_still : {S K : Type 0} (text : K → Script) (key : K) (slots id word : ℕ) (v : View K)
    (told_of : ℕ → Me S (View K) → Type 0)
    → ((words : List ℕ) (views : List (View K)) → Ruled text key words views → get_elem? views id ≡ some v
    → told_of (slice_index words word) (v, []))
    → Allows (holds text key) slots id (v, []) word (λ n. n) told_of
allow_still {S = S} {K = K} text key slots id word v told_of tell st h homes at small =
    let words_are : set st.words word (slice_index st.words word) ≡ st.words = set-get_or st.words word 0 in
    let views_are : set st.views id v ≡ st.views = set_again st.views id v at in (
      v,
      keeps,
      tt,
      subst (λ (w : List ℕ). Ruled text key w (set st.views id v)) (sym words_are)
          (subst (λ (u : List (View K)). Ruled text key st.words u) (sym views_are) h),
      tell st.words st.views h at,
    )

-- two seats of one player that are the same
pub same_seat : {K : Type 0} (k l : K) (i j : ℕ) (r o : Progress) → seat_of k i r ≡ seat_of l j o
    → (k ≡ l) × (i ≡ j) × (r ≡ o)
same_seat {K = K} k l i j r o e =
    let keys : k ∷ [] ≡ l ∷ [] = ap (λ (v : View K). v.key) e in
    let records : r ∷ [] ≡ o ∷ [] = ap (λ (v : View K). v.records) e in
    (cc, ap (λ (v : View K). v.first) e, cc)

-- what is told of a seat is told of it by whatever name
pub tell_seat : {S K : Type 0} (k l : K) (i j : ℕ) (r o new : Progress) (P : K → ℕ → Progress → Progress → Type 0)
    → seat_of k i r ≡ seat_of l j o → P k i r new
    → Becomes {S = S} (seat_of k i r, []) (seat_of k i new, []) l j (P l j o)
tell_seat {S = S} {K = K} k l i j r o new P e told =
    let t = same_seat k l i j r o e in (
      new,
      (λ p. (seat_of (t.0 p) (t.1 p) new, [])),
      subst (λ (z : K × ℕ × Progress). P z.0 z.1 z.2 new) (λ p. (t.0 p, t.1 p, t.2 p)) told,
    )
