-- Facts about each element, or each pair of elements, of a list: at its head, in its tail, put together.
use Rattle.std.specs.Prelude.{Bool, true, false, List, [], ◌∷◌, All, AllPairs, filter}
use Rattle.std.proofs.Common.{zero, suc, ◌≡◌, inl, inr, arith, refl, sym, ap, ◌∙◌}
use Rattle.std.proofs.lemmas.Bool.{cases_Bool}

pub all_nil : {X : Type 0} (P : X → Type 0) → All P []
all_nil P k d below = absurd (omega arith)

pub all_cons : {X : Type 0} (P : X → Type 0) (x : X) (xs : List X) → P x → All P xs → All P (x ∷ xs)
all_cons P x xs here rest zero d below = here
all_cons P x xs here rest (suc k) d below = rest k d (omega arith)

pub all_head : {X : Type 0} (P : X → Type 0) (x : X) (xs : List X) → All P (x ∷ xs) → P x
all_head P x xs h = h 0 x (omega arith)

pub all_tail : {X : Type 0} (P : X → Type 0) (x : X) (xs : List X) → All P (x ∷ xs) → All P xs
all_tail P x xs h k d below = h (suc k) d (omega arith)

pub all_map : {X : Type 0} (P Q : X → Type 0) (xs : List X) → ((x : X) → P x → Q x) → All P xs → All Q xs
all_map P Q xs f h k d below = f _ (h k d below)

pub pairs_nil : {X : Type 0} (R : X → X → Type 0) → AllPairs R []
pairs_nil R i j d less below = absurd (omega arith)

pub pairs_cons : {X : Type 0} (R : X → X → Type 0) (x : X) (xs : List X) → All (R x) xs → AllPairs R xs
    → AllPairs R (x ∷ xs)
pairs_cons R x xs here rest zero zero d less below = absurd (omega arith)
pairs_cons R x xs here rest zero (suc j) d less below = here j d (omega arith)
pairs_cons R x xs here rest (suc i) zero d less below = absurd (omega arith)
pairs_cons R x xs here rest (suc i) (suc j) d less below = rest i j d (omega arith) (omega arith)

pub pairs_head : {X : Type 0} (R : X → X → Type 0) (x : X) (xs : List X) → AllPairs R (x ∷ xs) → All (R x) xs
pairs_head R x xs h k d below = h 0 (suc k) d (omega arith) (omega arith)

pub pairs_tail : {X : Type 0} (R : X → X → Type 0) (x : X) (xs : List X) → AllPairs R (x ∷ xs) → AllPairs R xs
pairs_tail R x xs h i j d less below = h (suc i) (suc j) d (omega arith) (omega arith)

pub pairs_map : {X : Type 0} (R S : X → X → Type 0) (xs : List X) → ((x y : X) → R x y → S x y) → AllPairs R xs
    → AllPairs S xs
pairs_map R S xs f h i j d less below = f _ _ (h i j d less below)

pub filter_keeps : {X : Type 0} (p : X → Bool) (x : X) (xs : List X) → p x ≡ true → filter p (x ∷ xs) ≡ x ∷ filter p xs
filter_keeps p x xs e = rw e refl

pub filter_drops : {X : Type 0} (p : X → Bool) (x : X) (xs : List X) → p x ≡ false → filter p (x ∷ xs) ≡ filter p xs
filter_drops p x xs e = rw e refl

-- a second filter that lets through no more than the first
pub filter_twice : {X : Type 0} (p q : X → Bool) → ((x : X) → q x ≡ true → p x ≡ true) → (xs : List X)
    → filter q (filter p xs) ≡ filter q xs
filter_twice p q sub [] = refl
filter_twice p q sub (x ∷ xs) =
    elim (cases_Bool (p x)) [
      | inl e ↦ elim (cases_Bool (q x)) [
        | inl f ↦ ap (filter q) (filter_keeps p x xs e) ∙ filter_keeps q x (filter p xs) f
            ∙ ap (λ (t : List _). x ∷ t) (filter_twice p q sub xs) ∙ sym (filter_keeps q x xs f)
        | inr f ↦ ap (filter q) (filter_keeps p x xs e) ∙ filter_drops q x (filter p xs) f ∙ filter_twice p q sub xs
            ∙ sym (filter_drops q x xs f)
      ]
      | inr e ↦ elim (cases_Bool (q x)) [
        | inl f ↦ let t : true ≡ false = sym (sub x f) ∙ e in cc
        | inr f ↦ ap (filter q) (filter_drops p x xs e) ∙ filter_twice p q sub xs ∙ sym (filter_drops q x xs f)
      ]
    ]
