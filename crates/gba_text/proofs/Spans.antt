-- Tests, and the front of a list that passes one.
use Rattle.std.proofs.Common.{◌≡◌, ℕ, ◌+◌, Bool, true, false, cond, not, ◌&&◌, List, [], ◌∷◌, ◌++◌, take, drop, refl, ap}
use Rattle.std.specs.List.{list_all, prefix_len}
use Rattle.std.proofs.Math.Nat.{add_comm}
use Rattle.std.proofs.Common.{add-one}

pub first_of_all : (s t : Bool) → (s && t) ≡ true → s ≡ true
first_of_all true t h = refl
first_of_all false t h = h

pub rest_of_all : (s t : Bool) → (s && t) ≡ true → t ≡ true
rest_of_all true t h = h
rest_of_all false t h = cc

pub negated : (t : Bool) → not t ≡ true → t ≡ false
negated true h = cc
negated false h = refl

abbrev pub front : (ℕ → Bool) → List ℕ → List ℕ
front p [] = []
front p (x ∷ xs) = cond (p x) (x ∷ front p xs) []

abbrev pub back : (ℕ → Bool) → List ℕ → List ℕ
back p [] = []
back p (x ∷ xs) = cond (p x) (back p xs) (x ∷ xs)

-- the list is empty, or its first element fails the test
abbrev pub stops : (ℕ → Bool) → List ℕ → Bool
stops p [] = true
stops p (x ∷ _) = not (p x)

take_span : (p : ℕ → Bool) (x : ℕ) (xs : List ℕ) → take (prefix_len p xs) xs ≡ front p xs → (t : Bool)
    → take (cond t (1 + prefix_len p xs) 0) (x ∷ xs) ≡ cond t (x ∷ front p xs) []
take_span p x xs h true = rw (add_comm 1 (prefix_len p xs), add-one) (ap (λ ys. x ∷ ys) h)
take_span p x xs h false = refl

pub take-front : (p : ℕ → Bool) (xs : List ℕ) → take (prefix_len p xs) xs ≡ front p xs
take-front p [] = refl
take-front p (x ∷ xs) = take_span p x xs (take-front p xs) (p x)

drop_span : (p : ℕ → Bool) (x : ℕ) (xs : List ℕ) → drop (prefix_len p xs) xs ≡ back p xs → (t : Bool)
    → drop (cond t (1 + prefix_len p xs) 0) (x ∷ xs) ≡ cond t (back p xs) (x ∷ xs)
drop_span p x xs h true = rw (add_comm 1 (prefix_len p xs), add-one) h
drop_span p x xs h false = refl

pub drop-back : (p : ℕ → Bool) (xs : List ℕ) → drop (prefix_len p xs) xs ≡ back p xs
drop-back p [] = refl
drop-back p (x ∷ xs) = drop_span p x xs (drop-back p xs) (p x)

joins : (p : ℕ → Bool) (x : ℕ) (xs : List ℕ) → front p xs ++ back p xs ≡ xs → (t : Bool)
    → cond t (x ∷ front p xs) [] ++ cond t (back p xs) (x ∷ xs) ≡ x ∷ xs
joins p x xs h true = ap (λ ys. x ∷ ys) h
joins p x xs h false = refl

pub front-append-back : (p : ℕ → Bool) (xs : List ℕ) → front p xs ++ back p xs ≡ xs
front-append-back p [] = refl
front-append-back p (x ∷ xs) = joins p x xs (front-append-back p xs) (p x)

passes : (p : ℕ → Bool) (x : ℕ) (xs : List ℕ) → list_all p (front p xs) ≡ true → (t : Bool) → p x ≡ t
    → list_all p (cond t (x ∷ front p xs) []) ≡ true
passes p x xs h true e = rw (e, h) refl
passes p x xs h false e = refl

pub front-passes : (p : ℕ → Bool) (xs : List ℕ) → list_all p (front p xs) ≡ true
front-passes p [] = refl
front-passes p (x ∷ xs) = passes p x xs (front-passes p xs) (p x) refl

stopped : (p : ℕ → Bool) (x : ℕ) (xs : List ℕ) → stops p (back p xs) ≡ true → (t : Bool) → p x ≡ t
    → stops p (cond t (back p xs) (x ∷ xs)) ≡ true
stopped p x xs h true e = h
stopped p x xs h false e = rw e refl

pub back-stops : (p : ℕ → Bool) (xs : List ℕ) → stops p (back p xs) ≡ true
back-stops p [] = refl
back-stops p (x ∷ xs) = stopped p x xs (back-stops p xs) (p x) refl
