-- Choices between vectors, lane by lane.
use Rattle.std.proofs.Common.{◌≡◌, ℕ, zero, suc, ◌<◌, Bool, true, false, cond, eqb, ltb, List, [], ◌∷◌, map, length, get_or, replicate, bit_and, refl, ap, ◌∙◌, arith}
use Rattle.std.proofs.lemmas.Nat.{and_mask}
use lib.Lanes.{zip2, sel_l, top}
use Rattle.gba_terms.specs.Bits.{bit}
use Rattle.gba_ppu_blend.proofs.Vectors.{right}

abbrev pub less_mask : ℕ → ℕ → ℕ
less_mask a b = cond (ltb a b) 65535 0

abbrev pub less_vector : List ℕ → List ℕ → List ℕ → List ℕ → List ℕ
less_vector xs ys chosen other = sel_l (map (top 15) (zip2 less_mask xs ys)) chosen other

one_less : (t : Bool) (y o : ℕ) → cond (top 15 (cond t 65535 0)) y o ≡ cond t y o
one_less true y o = refl
one_less false y o = refl

pub less_at : (n : ℕ) (xs ys chosen other : List ℕ) (i : ℕ) → length xs ≡ n → length ys ≡ n → length chosen ≡ n
    → length other ≡ n → i < n
    → get_or (less_vector xs ys chosen other) i 0
    ≡ cond (ltb (get_or xs i 0) (get_or ys i 0)) (get_or chosen i 0) (get_or other i 0)
less_at zero xs ys chosen other i k l m p h = absurd (omega arith)
less_at (suc n) [] ys chosen other i k l m p h = absurd (omega arith)
less_at (suc n) (x ∷ xs) [] chosen other i k l m p h = absurd (omega arith)
less_at (suc n) (x ∷ xs) (y ∷ ys) [] other i k l m p h = absurd (omega arith)
less_at (suc n) (x ∷ xs) (y ∷ ys) (z ∷ zs) [] i k l m p h = absurd (omega arith)
less_at (suc n) (x ∷ xs) (y ∷ ys) (z ∷ zs) (w ∷ ws) zero k l m p h = one_less (ltb x y) z w
less_at (suc n) (x ∷ xs) (y ∷ ys) (z ∷ zs) (w ∷ ws) (suc i) k l m p h =
    less_at n xs ys zs ws i (omega arith) (omega arith) (omega arith) (omega arith) (omega arith)

pub less_count : (n : ℕ) (xs ys chosen other : List ℕ) → length xs ≡ n → length ys ≡ n → length chosen ≡ n
    → length other ≡ n → length (less_vector xs ys chosen other) ≡ n
less_count zero [] ys chosen other k l m p = refl
less_count zero (x ∷ xs) ys chosen other k l m p = absurd (omega arith)
less_count (suc n) [] ys chosen other k l m p = absurd (omega arith)
less_count (suc n) (x ∷ xs) [] chosen other k l m p = absurd (omega arith)
less_count (suc n) (x ∷ xs) (y ∷ ys) [] other k l m p = absurd (omega arith)
less_count (suc n) (x ∷ xs) (y ∷ ys) (z ∷ zs) [] k l m p = absurd (omega arith)
less_count (suc n) (x ∷ xs) (y ∷ ys) (z ∷ zs) (w ∷ ws) k l m p =
    ap suc (less_count n xs ys zs ws (omega arith) (omega arith) (omega arith) (omega arith))

abbrev pub equal_mask : ℕ → ℕ → ℕ
equal_mask a b = cond (eqb a b) 65535 0

abbrev pub bit_vector : ℕ → ℕ → List ℕ → List ℕ → List ℕ → List ℕ
bit_vector n place xs chosen other =
    sel_l (map (top 15) (zip2 equal_mask (zip2 bit_and (zip2 right xs (replicate n place)) (replicate n 1))
    (replicate n 1))) chosen other

one_bit : (place x y o : ℕ)
    → cond (top 15 (cond (eqb (bit_and (right x place) 1) 1) 65535 0)) y o ≡ cond (bit x place) y o
one_bit place x y o =
    one_less (eqb (bit_and (right x place) 1) 1) y o ∙ ap (λ v. cond (eqb v 1) y o) (and_mask (right x place) 1)

pub bit_at : (n place : ℕ) (xs chosen other : List ℕ) (i : ℕ) → length xs ≡ n → length chosen ≡ n
    → length other ≡ n → i < n
    → get_or (bit_vector n place xs chosen other) i 0
    ≡ cond (bit (get_or xs i 0) place) (get_or chosen i 0) (get_or other i 0)
bit_at zero place xs chosen other i k m p h = absurd (omega arith)
bit_at (suc n) place [] chosen other i k m p h = absurd (omega arith)
bit_at (suc n) place (x ∷ xs) [] other i k m p h = absurd (omega arith)
bit_at (suc n) place (x ∷ xs) (z ∷ zs) [] i k m p h = absurd (omega arith)
bit_at (suc n) place (x ∷ xs) (z ∷ zs) (w ∷ ws) zero k m p h = one_bit place x z w
bit_at (suc n) place (x ∷ xs) (z ∷ zs) (w ∷ ws) (suc i) k m p h =
    bit_at n place xs zs ws i (omega arith) (omega arith) (omega arith) (omega arith)

pub bit_count : (n place : ℕ) (xs chosen other : List ℕ) → length xs ≡ n → length chosen ≡ n → length other ≡ n
    → length (bit_vector n place xs chosen other) ≡ n
bit_count zero place [] chosen other k m p = refl
bit_count zero place (x ∷ xs) chosen other k m p = absurd (omega arith)
bit_count (suc n) place [] chosen other k m p = absurd (omega arith)
bit_count (suc n) place (x ∷ xs) [] other k m p = absurd (omega arith)
bit_count (suc n) place (x ∷ xs) (z ∷ zs) [] k m p = absurd (omega arith)
bit_count (suc n) place (x ∷ xs) (z ∷ zs) (w ∷ ws) k m p =
    ap suc (bit_count n place xs zs ws (omega arith) (omega arith) (omega arith))
