-- A list whose elements are changed in place, one after another.
use Rattle.std.proofs.Common.{◌≡◌, ◌+◌, ◌<◌, ◌≤◌, ◌∙◌, ℕ, List, length, get_or, slice_set, sym, subst, ⊎_elim, arith}
use Rattle.std.proofs.lemmas.Bool.{cases_eq}
use Rattle.std.proofs.lemmas.List.{get_or-set_other, get_or-set_same, get_or_default, length-set}

-- the first so many are changed, and the others aren't
pub record SoFar {X : Type 0} (R : ℕ → X → X → Type 0) (i : ℕ) (old new : List X) : Type 0 where
  pub many : length new ≡ length old
  pub changed : (k : ℕ) (d e : X) → k < i → k < length old → R k (get_or old k d) (get_or new k e)
  pub left : (k : ℕ) (d : X) → i ≤ k → get_or new k d ≡ get_or old k d

module _ {X : Type 0} (R : ℕ → X → X → Type 0) (i : ℕ) (old new : List X) (x y : X) (held : SoFar R i old new)
    (within : i < length new) (here : x ≡ get_or new i x) (is : R i x y) where
  -- what is there at last
  same-place : (k : ℕ) (d e : X) → k ≡ i → R k (get_or old k d) (get_or (slice_set new i y) k e)
  same-place k d e same =
      let there : i < length old = omega (arith, within, held.many) in
      let was : get_or old i d ≡ x =
      get_or_default old i d x there ∙ sym (held.left i x (omega arith)) ∙ sym here in
      let now : get_or (slice_set new i y) i e ≡ y = get_or-set_same new i y e within in
      subst (λ (n : ℕ). R n (get_or old n d) (get_or (slice_set new i y) n e)) (sym same)
      (subst (λ (a : X). R i a (get_or (slice_set new i y) i e)) (sym was) (subst (R i x) (sym now) is))

  other-place : (k : ℕ) (d e : X) → (k ≡ i → ⊥) → k < i + 1 → k < length old
      → R k (get_or old k d) (get_or (slice_set new i y) k e)
  other-place k d e apart less there =
      subst (R k (get_or old k d)) (sym (get_or-set_other new i k y e apart))
      (held.changed k d e (omega (arith, less, apart)) there)

  pub so-far-more : SoFar R (i + 1) old (slice_set new i y)
  so-far-more = record {
    many = length-set new i y ∙ held.many;
    changed = λ k d e less there.
        ⊎_elim (λ same. same-place k d e same) (λ apart. other-place k d e apart less there) (cases_eq k i);
    left = λ k d past.
        get_or-set_other new i k y d (λ same. omega (arith, same, past)) ∙ held.left k d (omega (arith, past));
  }
