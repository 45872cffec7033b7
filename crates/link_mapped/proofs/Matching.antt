-- Consoles that are alike, one by one.
use Rattle.std.specs.Prelude.{List, [], ◌∷◌, length, map, Option, None, Some, slice_get, slice_set}
use Rattle.std.proofs.Common.{ℕ, zero, suc, ◌≡◌, ◌∙◌, refl, ap}
use Rattle.link_mapped.specs.Mapped.{each_mapped}

abbrev pub Matched : {C : Type 0} → (f g : ℕ → C → C) → List C → List C → Type 0
Matched f g [] [] = Unit {0}
Matched f g [] (y ∷ ys) = ⊥
Matched f g (x ∷ xs) [] = ⊥
Matched f g (x ∷ xs) (y ∷ ys) = (f 0 x ≡ g 0 y) × Matched (λ i. f (suc i)) (λ i. g (suc i)) xs ys

first_or : {C : Type 0} → C → List C → C
first_or d [] = d
first_or d (x ∷ xs) = x

others : {C : Type 0} → List C → List C
others [] = []
others (x ∷ xs) = xs

-- lists that are changed to the same one
pub matched : {C : Type 0} (f g : ℕ → C → C) (xs ys : List C) → each_mapped f xs ≡ each_mapped g ys → Matched f g xs ys
unfolding first_or others
matched f g [] [] e = tt
matched f g [] (y ∷ ys) e = cc
matched f g (x ∷ xs) [] e = cc
matched f g (x ∷ xs) (y ∷ ys) e =
    (ap (first_or (f 0 x)) e, matched (λ i. f (suc i)) (λ i. g (suc i)) xs ys (ap others e))

pub each-same : {C : Type 0} (f g : ℕ → C → C) (xs ys : List C) → Matched f g xs ys
    → each_mapped f xs ≡ each_mapped g ys
each-same f g [] [] m = refl
each-same f g [] (y ∷ ys) m = absurd m
each-same f g (x ∷ xs) [] m = absurd m
each-same {C = C} f g (x ∷ xs) (y ∷ ys) m =
    let rest = each-same (λ i. f (suc i)) (λ i. g (suc i)) xs ys m.1 in
    ap (λ (a : C). a ∷ each_mapped (λ i. f (suc i)) xs) m.0 ∙ ap (λ (all : List C). g 0 y ∷ all) rest

-- they are as many, and what is the same of each two is the same of all
pub map-same : {C : Type 0} (of : C → ℕ) (f g : ℕ → C → C) (xs ys : List C)
    → ((i : ℕ) (x y : C) → f i x ≡ g i y → of x ≡ of y) → Matched f g xs ys → map of xs ≡ map of ys
map-same of f g [] [] same m = refl
map-same of f g [] (y ∷ ys) same m = absurd m
map-same of f g (x ∷ xs) [] same m = absurd m
map-same of f g (x ∷ xs) (y ∷ ys) same m =
    let rest = map-same of (λ i. f (suc i)) (λ i. g (suc i)) xs ys (λ i. same (suc i)) m.1 in
    ap (λ (n : ℕ). n ∷ map of xs) (same 0 x y m.0) ∙ ap (λ (all : List ℕ). of y ∷ all) rest

pub length-same : {C : Type 0} (f g : ℕ → C → C) (xs ys : List C) → Matched f g xs ys → length xs ≡ length ys
length-same f g [] [] m = refl
length-same f g [] (y ∷ ys) m = absurd m
length-same f g (x ∷ xs) [] m = absurd m
length-same f g (x ∷ xs) (y ∷ ys) m = ap suc (length-same (λ i. f (suc i)) (λ i. g (suc i)) xs ys m.1)

-- the consoles of one player
abbrev pub Both : {C : Type 0} → (C → C → Type 0) → Option C → Option C → Type 0
Both R None None = Unit {0}
Both R None (Some y) = ⊥
Both R (Some x) None = ⊥
Both R (Some x) (Some y) = R x y

pub get-matched : {C : Type 0} (f g : ℕ → C → C) (xs ys : List C) (i : ℕ) → Matched f g xs ys
    → Both (λ x y. f i x ≡ g i y) (slice_get xs i) (slice_get ys i)
get-matched f g [] [] i m = tt
get-matched f g [] (y ∷ ys) i m = absurd m
get-matched f g (x ∷ xs) [] i m = absurd m
get-matched f g (x ∷ xs) (y ∷ ys) zero m = m.0
get-matched f g (x ∷ xs) (y ∷ ys) (suc i) m =
    get-matched (λ j. f (suc j)) (λ j. g (suc j)) xs ys i m.1

pub set-matched : {C : Type 0} (f g : ℕ → C → C) (xs ys : List C) (i : ℕ) (a b : C) → Matched f g xs ys
    → f i a ≡ g i b → Matched f g (slice_set xs i a) (slice_set ys i b)
set-matched f g [] [] i a b m same = tt
set-matched f g [] (y ∷ ys) i a b m same = absurd m
set-matched f g (x ∷ xs) [] i a b m same = absurd m
set-matched f g (x ∷ xs) (y ∷ ys) zero a b m same = (same, m.1)
set-matched f g (x ∷ xs) (y ∷ ys) (suc i) a b m same =
    (m.0, set-matched (λ j. f (suc j)) (λ j. g (suc j)) xs ys i a b m.1 same)
