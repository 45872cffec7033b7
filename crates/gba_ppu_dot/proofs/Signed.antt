-- Words as signed numbers.
use Rattle.std.proofs.Common.{◌≡◌, ℕ, ◌+◌, ◌-◌, ◌*◌, ◌%◌, ◌^◌, ◌<◌, ◌≤◌, ◌⊎◌, Bool, true, false, sym, subst, inl, inr, ⊎_elim, refl, arith}
use Rattle.std.specs.Prelude.{ℤ, pos, negsuc, ◌+ℤ◌, ◌≤ℤ◌, if◌then◌else◌}
use Rattle.std.proofs.lemmas.Bool.{cases_lt}
use Rattle.std.proofs.lemmas.Int.{ints}
use Rattle.gba_terms.specs.Bits.{bit}
use Rattle.gba_word.specs.Extension.{sign_extension}
use Rattle.gba_ppu_dot.specs.Signed.{signed}

-- A natural number stands for a signed one that isn't far from 0: it has some turns of 2 ^ 32 more.
pub record StandsFor (far : ℕ) (z : ℤ) (n : ℕ) : Type 0 where
  pub turns : ℕ
  pub sum : z +ℤ pos (2 ^ 32 * turns) ≡ pos n
  pub least : negsuc far ≤ℤ z
  pub most : z ≤ℤ pos far

-- a word
pub signed_low : (word : ℕ) → word < 2 ^ 31 → signed word ≡ pos word
signed_low word h = grind arith

pub signed_high : (word : ℕ) → 2 ^ 31 ≤ word → word < 2 ^ 32 → signed word ≡ negsuc (2 ^ 32 - 1 - word)
signed_high word l h = grind arith

point_low : (word : ℕ) → word < 2 ^ 31 → StandsFor (2 ^ 31) (pos word) word
point_low word h = record {
  turns = 0;
  sum = omega (arith, ints);
  least = omega (arith, ints);
  most = omega (arith, ints);
}

point_high : (word : ℕ) → 2 ^ 31 ≤ word → word < 2 ^ 32 → StandsFor (2 ^ 31) (negsuc (2 ^ 32 - 1 - word)) word
point_high word l h = record {
  turns = 1;
  sum = omega (arith, ints);
  least = omega (arith, ints);
  most = omega (arith, ints);
}

pub point : (word : ℕ) → word < 2 ^ 32 → StandsFor (2 ^ 31) (signed word) word
point word h =
    ⊎_elim
    (λ (low : word < 2 ^ 31).
    let P : ℤ → Type 0 = λ z. StandsFor (2 ^ 31) z word in
    subst P (sym (signed_low word low)) (point_low word low))
    (λ (high : 2 ^ 31 ≤ word).
    let P : ℤ → Type 0 = λ z. StandsFor (2 ^ 31) z word in
    subst P (sym (signed_high word high h)) (point_high word high h))
    (cases_lt word (2 ^ 31))

-- a parameter's step is small, forth or back
step_of : (negative : Bool) (parameter : ℕ) → bit parameter 15 ≡ negative
    → ((if negative then parameter % 2 ^ 16 + (2 ^ 32 - 2 ^ 16) else parameter % 2 ^ 16) < 2 ^ 15)
    ⊎ ((2 ^ 32 - 2 ^ 15 ≤ (if negative then parameter % 2 ^ 16 + (2 ^ 32 - 2 ^ 16) else parameter % 2 ^ 16))
    × ((if negative then parameter % 2 ^ 16 + (2 ^ 32 - 2 ^ 16) else parameter % 2 ^ 16) < 2 ^ 32))
step_of true parameter e = inr (grind arith, omega arith)
step_of false parameter e = inl (grind arith)

abbrev pub IsStep : ℕ → Type 0
IsStep step = (step < 2 ^ 15) ⊎ ((2 ^ 32 - 2 ^ 15 ≤ step) × (step < 2 ^ 32))

pub extension_is_step : (half : ℕ) → IsStep (sign_extension half 16)
extension_is_step half = step_of (bit half 15) half refl
