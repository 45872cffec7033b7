-- The front of a file that is one byte longer than the file may be.
use Rattle.std.proofs.Common.{◌≡◌, ◌⊎◌, ℕ, ◌+◌, ◌<◌, ◌≤◌, true, false, List, length, take, ◌∙◌, sym, inl, inr, arith}
use Rattle.std.specs.Prelude.{nat_lt}
use Rattle.std.proofs.lemmas.Bool.{cases_lt}
use Rattle.std.proofs.lemmas.List.{take_all, length-take-le}

at_most : (most n : ℕ) → n < most + 1 → nat_lt most n ≡ false
at_most most n h = grind arith

more : (most n : ℕ) → most + 1 ≤ n → nat_lt most n ≡ true
more most n h = grind arith

-- it is the whole file, which is short enough; or both are longer
pub front-cases : (most : ℕ) (all : List ℕ) → ((take (most + 1) all ≡ all) × (nat_lt most (length all) ≡ false))
    ⊎ ((nat_lt most (length (take (most + 1) all)) ≡ true) × (nat_lt most (length all) ≡ true))
front-cases most all = by (cases_lt (length all) (most + 1)) where
  by : (length all < most + 1) ⊎ (most + 1 ≤ length all)
      → ((take (most + 1) all ≡ all) × (nat_lt most (length all) ≡ false))
      ⊎ ((nat_lt most (length (take (most + 1) all)) ≡ true) × (nat_lt most (length all) ≡ true))
  by (inl short) = inl (take_all (most + 1) all (omega arith), at_most most (length all) short)
  by (inr long) =
      let n : length (take (most + 1) all) ≡ most + 1 = length-take-le (most + 1) all long in
      inr (more most (length (take (most + 1) all)) (omega arith), more most (length all) long)

-- a front that is too long is one of a file that is
pub front-long : (most : ℕ) (all bytes : List ℕ) → bytes ≡ take (most + 1) all → nat_lt most (length bytes) ≡ true
    → nat_lt most (length all) ≡ true
front-long most all bytes is long = by (front-cases most all) where
  by : ((take (most + 1) all ≡ all) × (nat_lt most (length all) ≡ false))
      ⊎ ((nat_lt most (length (take (most + 1) all)) ≡ true) × (nat_lt most (length all) ≡ true))
      → nat_lt most (length all) ≡ true
  by (inl h) = let whole : bytes ≡ all = is ∙ h.0 in rw whole at long
  by (inr h) = h.1

-- and one that isn't too long is the file
pub front-whole : (most : ℕ) (all bytes : List ℕ) → bytes ≡ take (most + 1) all → nat_lt most (length bytes) ≡ false
    → (bytes ≡ all) × (nat_lt most (length all) ≡ false)
front-whole most all bytes is short = by (front-cases most all) where
  by : ((take (most + 1) all ≡ all) × (nat_lt most (length all) ≡ false))
      ⊎ ((nat_lt most (length (take (most + 1) all)) ≡ true) × (nat_lt most (length all) ≡ true))
      → (bytes ≡ all) × (nat_lt most (length all) ≡ false)
  by (inl h) = (is ∙ h.0, h.1)
  by (inr h) = let long = rw (sym is) at h.0 in absurd cc
