-- Splitting a seat and joining two keeps the rule.
use Rattle.std.specs.Prelude.{List, [], ◌∷◌, ◌++◌, length, take, drop, Some, None, slice_get, ◌==◌, ◌&&◌, not, if◌then◌else◌}
use Rattle.std.proofs.Common.{ℕ, zero, suc, ◌≡◌, ◌≢◌, ◌+◌, ◌<◌, ◌⊎◌, inl, inr, arith, refl, sym, ap, ◌∙◌, subst, set}
use Rattle.std.proofs.Common.{true, false}
use Rattle.std.proofs.lemmas.Bool.Decides.{nat_tests}
use Rattle.std.proofs.lemmas.List.{length-set}
use mathlib.Core.Option.{some, some-injective, some-ne-none}
use lib.ListN.{get_elem?}
use Rattle.atomic_table.specs.Table.{Splits, Joins}
use Rattle.atomic_table.proofs.Lists.{at_set, set_else}
use Rattle.link_script.specs.Script.{Script}
use Rattle.link_script.proofs.Lines.{found}
use Rattle.link_rule.specs.declared.view.Progress.{Progress}
use Rattle.link_rule.specs.declared.view.View.{View}
use Rattle.link_rule.specs.Rule.{IsSeated, Ruled, holds, first_of, others_of, joined, spent_view}

-- an element of a list with one more: it was there, or it is the new one
at_end : {X : Type 0} (l : List X) (x y : X) (k : ℕ) → get_elem? (l ++ x ∷ []) k ≡ some y
    → (get_elem? l k ≡ some y) ⊎ ((k ≡ length l) × (x ≡ y))
at_end [] x y zero e = inr (refl, some-injective x y e)
at_end [] x y (suc k) e = absurd (some-ne-none y (sym e))
at_end (a ∷ l) x y zero e = inl e
at_end (a ∷ l) x y (suc k) e =
    elim (at_end l x y k e) [
      | inl t ↦ inl t
      | inr t ↦ inr (ap suc t.0, t.1)
    ]

-- who plays after a split: the players behind the first one of a seat have a new one
split_owner : ℕ → ℕ → ℕ → (ℕ → ℕ) → ℕ → ℕ
split_owner id first fresh owner a = if (owner a == id) && not (a == first) then fresh else owner a

split_fresh : (id first fresh : ℕ) (owner : ℕ → ℕ) (a : ℕ) → owner a ≡ id → a ≢ first
    → split_owner id first fresh owner a ≡ fresh
unfolding split_owner
split_fresh id first fresh owner a e n =
    let t : ((owner a == id) && not (a == first)) ≡ true = grind (arith, nat_tests) in
    ap (λ b. if b then fresh else owner a) t

split_first : (id first fresh : ℕ) (owner : ℕ → ℕ) (a : ℕ) → a ≡ first → split_owner id first fresh owner a ≡ owner a
unfolding split_owner
split_first id first fresh owner a e =
    let t : ((owner a == id) && not (a == first)) ≡ false = grind (arith, nat_tests) in
    ap (λ b. if b then fresh else owner a) t

split_other : (id first fresh : ℕ) (owner : ℕ → ℕ) (a : ℕ) → owner a ≢ id → split_owner id first fresh owner a ≡ owner a
unfolding split_owner
split_other id first fresh owner a n =
    let t : ((owner a == id) && not (a == first)) ≡ false = grind (arith, nat_tests) in
    ap (λ b. if b then fresh else owner a) t

-- who plays after a join: the players of the one seat have the other
join_owner : ℕ → ℕ → (ℕ → ℕ) → ℕ → ℕ
join_owner id other owner a = if owner a == other then id else owner a

join_taken : (id other : ℕ) (owner : ℕ → ℕ) (a : ℕ) → owner a ≡ other → join_owner id other owner a ≡ id
unfolding join_owner
join_taken id other owner a e =
    let t : (owner a == other) ≡ true = grind (arith, nat_tests) in ap (λ b. if b then id else owner a) t

join_other : (id other : ℕ) (owner : ℕ → ℕ) (a : ℕ) → owner a ≢ other → join_owner id other owner a ≡ owner a
unfolding join_owner
join_other id other owner a n =
    let t : (owner a == other) ≡ false = grind (arith, nat_tests) in ap (λ b. if b then id else owner a) t

-- a record's seat under another owner
reseated : {K : Type 0} (key : K) (made : ℕ → Progress) (owner after : ℕ → ℕ) (players id now : ℕ) (v w : View K)
    (q p : ℕ) (x : Progress) → IsSeated key made owner players id v q x → w.key ≡ v.key
    → w.first + p ≡ v.first + q → after (v.first + q) ≡ now → IsSeated key made after players now w p x
reseated key made owner after players id now v w q p x s keys places owned = record {
  key_is = keys ∙ s.key_is;
  player = subst (λ (n : ℕ). n < players) (sym places) s.player;
  owned = ap after places ∙ owned;
  made_is = s.made_is ∙ ap made (sym places);
}

first_record : (l : List Progress) (q : ℕ) (x : Progress) → slice_get (take 1 l) q ≡ Some x
    → (q ≡ 0) × (slice_get l 0 ≡ Some x)
first_record [] q x e = cc
first_record (r ∷ l) zero x e = (refl, e)
first_record (r ∷ l) (suc q) x e = cc

other_record : (l : List Progress) (q : ℕ) (x : Progress) → slice_get (drop 1 l) q ≡ Some x
    → slice_get l (suc q) ≡ Some x
other_record [] q x e = cc
other_record (r ∷ l) q x e = e

split_rule : {K : Type 0} (text : K → Script) (key : K) (words : List ℕ) (views : List (View K)) (id : ℕ) (v : View K)
    → Ruled text key words views → get_elem? views id ≡ some v
    → Ruled text key words (set views id (first_of v) ++ others_of v ∷ [])
split_rule {K = K} text key words views id v h at =
    let fresh : ℕ = length views in
    let owner : ℕ → ℕ = split_owner id v.first fresh h.owner in
    let n : ℕ = (text key).players in
    record {
      made = h.made;
      owner = owner;
      sound = h.sound;
      wide = h.wide;
      shows = h.shows;
      knows = h.knows;
      seats = λ c u e q x there.
          elim (at_end (set views id (first_of v)) (others_of v) u c e) [
            | inl old ↦ elim (at_set views id c (first_of v) u old) [
              | inl t ↦
                  subst (λ (z : ℕ). IsSeated key h.made owner n z u q x) (sym t.0)
                  (subst (λ (w : View K). slice_get w.records q ≡ Some x → IsSeated key h.made owner n id w q x) t.1
                  (λ there2.
                  let f = first_record v.records q x there2 in
                  let s = h.seats id v at 0 x f.1 in
                  reseated key h.made h.owner owner n id id v (first_of v) 0 q x s refl (omega (arith, f.0))
                  (split_first id v.first fresh h.owner (v.first + 0) (omega arith) ∙ s.owned))
                  there)
              | inr t ↦
                  let s = h.seats c u t.1 q x there in
                  let away : h.owner (u.first + q) ≢ id = λ d. t.0 (sym s.owned ∙ d) in
                  reseated key h.made h.owner owner n c c u u q q x s refl refl
                  (split_other id v.first fresh h.owner (u.first + q) away ∙ s.owned)
            ]
            | inr last ↦
                let number : c ≡ fresh = last.0 ∙ length-set views id (first_of v) in
                subst (λ (z : ℕ). IsSeated key h.made owner n z u q x) (sym number)
                (subst (λ (w : View K). slice_get w.records q ≡ Some x → IsSeated key h.made owner n fresh w q x) last.1
                (λ there2.
                let s = h.seats id v at (suc q) x (other_record v.records q x there2) in
                reseated key h.made h.owner owner n id fresh v (others_of v) (suc q) q x s refl (omega arith)
                (split_fresh id v.first fresh h.owner (v.first + suc q) s.owned (λ d. omega arith)))
                there)
          ];
    }

-- a split is allowed
pub split_allowed : {S K : Type 0} (text : K → Script) (key : K) (id : ℕ) (v : View K)
    → Splits {S = S} (holds text key) id v (first_of v) (others_of v)
split_allowed text key id v st h at = split_rule text key st.words st.views id v h at

either_record : (l m : List Progress) (q : ℕ) (x : Progress) → slice_get (l ++ m) q ≡ Some x
    → (slice_get l q ≡ Some x) ⊎ ((p : ℕ) × (q ≡ length l + p) × (slice_get m p ≡ Some x))
either_record [] m q x e = inr (q, omega arith, e)
either_record (r ∷ l) m zero x e = inl e
either_record (r ∷ l) m (suc q) x e =
    elim (either_record l m q x e) [
      | inl t ↦ inl t
      | inr t ↦ inr (t.0, let a : q ≡ length l + t.0 = t.1 in omega arith, t.2)
    ]

join_rule : {K : Type 0} (text : K → Script) (key : K) (words : List ℕ) (views : List (View K)) (id other : ℕ)
    (v w : View K) → Ruled text key words views → get_elem? views id ≡ some v → other ≢ id
    → get_elem? views other ≡ some w → 0 < length v.records → w.first ≡ v.first + length v.records
    → Ruled text key words (set (set views id (joined v w)) other spent_view)
join_rule {K = K} text key words views id other v w h at apart there some_record follows =
    let owner : ℕ → ℕ = join_owner id other h.owner in
    let n : ℕ = (text key).players in
    let r = found v.records 0 some_record in
    let v_key : v.key ≡ key ∷ [] = (h.seats id v at 0 r.0 r.1).key_is in
    record {
      made = h.made;
      owner = owner;
      sound = h.sound;
      wide = h.wide;
      shows = h.shows;
      knows = h.knows;
      seats = λ c u e q x in_u.
          elim (at_set (set views id (joined v w)) other c spent_view u e) [
            | inl t ↦
                let nothing : None ≡ Some x
                = subst (λ (y : View K). slice_get y.records q ≡ Some x) (sym t.1) in_u in
                absurd cc
            | inr t ↦ elim (at_set views id c (joined v w) u t.1) [
              | inl d ↦
                  subst (λ (z : ℕ). IsSeated key h.made owner n z u q x) (sym d.0)
                  (subst (λ (y : View K). slice_get y.records q ≡ Some x → IsSeated key h.made owner n id y q x) d.1
                  (λ in_both.
                  elim (either_record v.records w.records q x in_both) [
                    | inl mine ↦
                        let s = h.seats id v at q x mine in
                        let away : h.owner (v.first + q) ≢ other = λ z. apart (sym z ∙ s.owned) in
                        reseated key h.made h.owner owner n id id v (joined v w) q q x s refl refl
                        (join_other id other h.owner (v.first + q) away ∙ s.owned)
                    | inr its ↦
                        let s = h.seats other w there its.0 x its.2 in
                        let number : q ≡ length v.records + its.0 = its.1 in
                        reseated key h.made h.owner owner n other id w (joined v w) its.0 q x s (v_key ∙ sym s.key_is)
                        (omega arith)
                        (join_taken id other h.owner (w.first + its.0) s.owned)
                  ])
                  in_u)
              | inr d ↦
                  let s = h.seats c u d.1 q x in_u in
                  let away : h.owner (u.first + q) ≢ other = λ z. t.0 (sym s.owned ∙ z) in
                  reseated key h.made h.owner owner n c c u u q q x s refl refl
                  (join_other id other h.owner (u.first + q) away ∙ s.owned)
            ]
          ];
    }

-- a join is allowed with the seat that plays the next players
pub join_allowed : {S K : Type 0} (text : K → Script) (key : K) (id other : ℕ) (v w : View K)
    → 0 < length v.records → w.first ≡ v.first + length v.records
    → Joins {S = S} (holds text key) id v other w (joined v w) spent_view
join_allowed text key id other v w some_record follows st h at apart there =
    join_rule text key st.words st.views id other v w h at apart
    (sym (set_else st.views id other (joined v w) apart) ∙ there) some_record follows
