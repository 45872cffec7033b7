-- Places by words are places by signed numbers.
use Rattle.std.proofs.Common.{◌≡◌, ℕ, suc, ◌+◌, ◌-◌, ◌*◌, ◌/◌, ◌%◌, ◌^◌, ◌<◌, ◌≤◌, ap, inl, inr, ⊎_elim, arith}
use Rattle.std.specs.Prelude.{ℤ, pos, negsuc, neg_ℤ, ◌+ℤ◌, ◌-ℤ◌, ◌*ℤ◌}
use Rattle.std.specs.Int.{int_div_euclid}
use Rattle.std.proofs.lemmas.Bool.{cases_lt}
use Rattle.std.proofs.lemmas.Int.{ints}
use Rattle.std.proofs.Math.Nat.{mul-le-mul}
use Rattle.gba_word.specs.Extension.{sign_extension}
use Rattle.gba_ppu_dot.specs.Signed.{signed}
use Rattle.gba_ppu_dot.proofs.Signed.{IsStep, StandsFor, extension_is_step, signed_high, signed_low}
use Rattle.gba_ppu_obj.specs.Rounding.{from_middle}

-- how far a place is from the middle: after it, and before it
after_middle : (place half : ℕ) → half ≤ place → pos place -ℤ pos half ≡ pos (place - half)
after_middle place half h = omega (arith, ints)

before_middle : (place half : ℕ) → place < half → pos place -ℤ pos half ≡ negsuc (half - place - 1)
before_middle place half h = omega (arith, ints)

-- A product by a word is the product by what it stands for, and some turns more: `far` is the distance, and the word of
-- the place is that distance forth or back from 2 ^ 32.
forth : (step far : ℕ) → step * (far + 2 ^ 32) ≡ step * far + 2 ^ 32 * step
forth step far = omega arith

back : (step far : ℕ) → far ≤ 2 ^ 32 → step * (2 ^ 32 - far) + step * far ≡ 2 ^ 32 * step
back step far h =
    let e : step * ((2 ^ 32 - far) + far) ≡ step * 2 ^ 32 = ap (λ n. step * n) (omega arith) in
    omega (arith, e)

whole : (step less n : ℕ) → step + less ≡ 2 ^ 32 → step * n + less * n ≡ 2 ^ 32 * n
whole step less n e = let f : (step + less) * n ≡ 2 ^ 32 * n = ap (λ m. m * n) e in omega arith

small : (step far : ℕ) → step ≤ 2 ^ 15 → far ≤ 128 → step * far ≤ 2 ^ 22
small step far h k = mul-le-mul {n₁ = step} {m₁ = far} {n₂ = 2 ^ 15} {m₂ = 128} h k

low_forth : (step far : ℕ) → step < 2 ^ 15 → far ≤ 128
    → StandsFor (2 ^ 22) (pos step *ℤ pos far) (step * (far + 2 ^ 32))
low_forth step far h k =
    let b : step * far ≤ 2 ^ 22 = small step far (omega arith) k in
    let f : step * (far + 2 ^ 32) ≡ step * far + 2 ^ 32 * step = forth step far in
    record { turns = step; sum = omega (arith, ints, f); least = omega (arith, ints, b); most = omega (arith, ints, b) }

down_by : (less n turns : ℕ) → less ≤ 2 ^ 22 → n + less ≡ 2 ^ 32 * turns → StandsFor (2 ^ 22) (neg_ℤ (pos less)) n
down_by less n turns b e = record {
  turns = turns;
  sum = omega (arith, ints);
  least = omega (arith, ints);
  most = omega (arith, ints);
}

up_by : (more n turns : ℕ) → more ≤ 2 ^ 22 → n ≡ more + 2 ^ 32 * turns → StandsFor (2 ^ 22) (pos more) n
up_by more n turns b e = record {
  turns = turns;
  sum = omega (arith, ints);
  least = omega (arith, ints);
  most = omega (arith, ints);
}

low_back : (step far : ℕ) → step < 2 ^ 15 → suc far ≤ 128
    → StandsFor (2 ^ 22) (pos step *ℤ negsuc far) (step * (2 ^ 32 - suc far))
low_back step far h k =
    down_by (step * suc far) (step * (2 ^ 32 - suc far)) step (small step (suc far) (omega arith) k)
    (back step (suc far) (omega arith))

high_forth : (step less far : ℕ) → step + suc less ≡ 2 ^ 32 → less < 2 ^ 15 → far ≤ 128
    → StandsFor (2 ^ 22) (negsuc less *ℤ pos far) (step * (far + 2 ^ 32))
high_forth step less far e h k =
    let w : step * far + suc less * far ≡ 2 ^ 32 * far = whole step (suc less) far e in
    let f : step * (far + 2 ^ 32) ≡ step * far + 2 ^ 32 * step = forth step far in
    down_by (suc less * far) (step * (far + 2 ^ 32)) (far + step) (small (suc less) far (omega arith) k)
    (omega (arith, w, f))

high_back : (step less far : ℕ) → step + suc less ≡ 2 ^ 32 → less < 2 ^ 15 → suc far ≤ 128
    → StandsFor (2 ^ 22) (negsuc less *ℤ negsuc far) (step * (2 ^ 32 - suc far))
high_back step less far e h k =
    let w : step * suc far + suc less * suc far ≡ 2 ^ 32 * suc far = whole step (suc less) (suc far) e in
    let f : step * (2 ^ 32 - suc far) + step * suc far ≡ 2 ^ 32 * step = back step (suc far) (omega arith) in
    up_by (suc less * suc far) (step * (2 ^ 32 - suc far)) (step - suc far) (small (suc less) (suc far) (omega arith) k)
    (omega (arith, w, f))

same_product : (one step_value far_value far : ℤ) (step word other : ℕ) → one ≡ step_value → far ≡ far_value
    → word ≡ other
    → StandsFor (2 ^ 22) (step_value *ℤ far_value) (step * other) → StandsFor (2 ^ 22) (one *ℤ far) (step * word)
same_product one step_value far_value far step word other e f g h = rw (e, f, g) h

product_after : (step place half : ℕ) → IsStep step → half ≤ place → place < 128
    → StandsFor (2 ^ 22) (signed step *ℤ (pos place -ℤ pos half)) (step * (place + (2 ^ 32 - half)))
product_after step place half (inl low) h k =
    same_product (signed step) (pos step) (pos (place - half)) (pos place -ℤ pos half) step (place + (2 ^ 32 - half))
    ((place - half) + 2 ^ 32)
    (signed_low step (omega arith)) (after_middle place half h) (omega arith)
    (low_forth step (place - half) low (omega arith))
product_after step place half (inr high) h k =
    same_product (signed step) (negsuc (2 ^ 32 - 1 - step)) (pos (place - half)) (pos place -ℤ pos half) step
    (place + (2 ^ 32 - half)) ((place - half) + 2 ^ 32)
    (signed_high step (omega (arith, high.0)) high.1) (after_middle place half h) (omega arith)
    (high_forth step (2 ^ 32 - 1 - step) (place - half) (omega (arith, high.1)) (omega (arith, high.0)) (omega arith))

product_before : (step place half : ℕ) → IsStep step → place < half → half ≤ 64
    → StandsFor (2 ^ 22) (signed step *ℤ (pos place -ℤ pos half)) (step * (place + (2 ^ 32 - half)))
product_before step place half (inl low) h k =
    same_product (signed step) (pos step) (negsuc (half - place - 1)) (pos place -ℤ pos half) step
    (place + (2 ^ 32 - half))
    (2 ^ 32 - suc (half - place - 1))
    (signed_low step (omega arith)) (before_middle place half h) (omega arith)
    (low_back step (half - place - 1) low (omega arith))
product_before step place half (inr high) h k =
    same_product (signed step) (negsuc (2 ^ 32 - 1 - step)) (negsuc (half - place - 1)) (pos place -ℤ pos half) step
    (place + (2 ^ 32 - half)) (2 ^ 32 - suc (half - place - 1))
    (signed_high step (omega (arith, high.0)) high.1) (before_middle place half h) (omega arith)
    (high_back step (2 ^ 32 - 1 - step) (half - place - 1) (omega (arith, high.1)) (omega (arith, high.0))
    (omega arith))

product : (step place side : ℕ) → IsStep step → side ≤ 128 → place < 128
    → StandsFor (2 ^ 22) (signed step *ℤ from_middle place side) (step * (place + (2 ^ 32 - side / 2)))
product step place side s w k =
    ⊎_elim
    (λ (before : place < side / 2). product_before step place (side / 2) s before (omega arith))
    (λ (after : side / 2 ≤ place). product_after step place (side / 2) s after k)
    (cases_lt place (side / 2))

abbrev pub Sum : ℤ → ℕ → Type 0
Sum z n = StandsFor (2 ^ 23 + 1) z n

added : (z y : ℤ) (n m : ℕ) → StandsFor (2 ^ 22) z n → StandsFor (2 ^ 22) y m → Sum (z +ℤ y) (n + m)
added z y n m a b = record {
  turns = a.turns + b.turns;
  sum = omega (arith, ints, a.sum, b.sum);
  least = omega (arith, ints, a.least, b.least);
  most = omega (arith, ints, a.most, b.most);
}

pub stands : (across down box_wide box_high p q : ℕ) → box_wide ≤ 128 → box_high ≤ 128 → p < 128 → q < 128
    → Sum (signed (sign_extension across 16) *ℤ from_middle p box_wide +ℤ signed
    (sign_extension down 16) *ℤ from_middle q box_high)
    (sign_extension across 16 * (p + (2 ^ 32 - box_wide / 2)) + sign_extension down 16 * (q + (2 ^ 32 - box_high / 2)))
stands across down box_wide box_high p q w h k l =
    added (signed (sign_extension across 16) *ℤ from_middle p box_wide)
    (signed (sign_extension down 16) *ℤ from_middle q box_high)
    (sign_extension across 16 * (p + (2 ^ 32 - box_wide / 2)))
    (sign_extension down 16 * (q + (2 ^ 32 - box_high / 2)))
    (product (sign_extension across 16) p box_wide (extension_is_step across) w k)
    (product (sign_extension down 16) q box_high (extension_is_step down) h l)

-- the word of such a number
word_of_positive : (a n : ℕ) → Sum (pos a) n → n % 2 ^ 32 ≡ a
word_of_positive a n s = omega (arith, ints, s.sum, s.most)

positive_near : (a n : ℕ) → Sum (pos a) n → a ≤ 2 ^ 23 + 1
positive_near a n s = omega (arith, ints, s.most)

negative_near : (a n : ℕ) → Sum (negsuc a) n → a ≤ 2 ^ 23 + 1
negative_near a n s = omega (arith, ints, s.least)

word_of_negative : (a n : ℕ) → Sum (negsuc a) n → n % 2 ^ 32 ≡ 2 ^ 32 - 1 - a
word_of_negative a n s = omega (arith, ints, s.sum, s.least)

-- inside a picture
pub inside-from : (z : ℤ) (n half place : ℕ) → Sum z n → half ≤ 32 → place < 64
    → int_div_euclid z (pos 256) +ℤ pos half ≡ pos place → (n % 2 ^ 32 / 256 + half) % 2 ^ 24 ≡ place
inside-from (pos a) n half place s w h e =
    let f : n % 2 ^ 32 ≡ a = word_of_positive a n s in
    let g : a ≤ 2 ^ 23 + 1 = positive_near a n s in
    let i : a / 256 + half ≡ place = omega (arith, ints, e) in
    omega (arith, f, g, i)
inside-from (negsuc a) n half place s w h e =
    let f : n % 2 ^ 32 ≡ 2 ^ 32 - 1 - a = word_of_negative a n s in
    let g : a ≤ 2 ^ 23 + 1 = negative_near a n s in
    let i : half ≡ place + a / 256 + 1 = omega (arith, ints, e) in
    omega (arith, f, g, i)

pub only_inside-from : (z : ℤ) (n half place : ℕ) → Sum z n → half ≤ 32 → place < 64
    → (n % 2 ^ 32 / 256 + half) % 2 ^ 24 ≡ place → int_div_euclid z (pos 256) +ℤ pos half ≡ pos place
only_inside-from (pos a) n half place s w h e =
    let f : n % 2 ^ 32 ≡ a = word_of_positive a n s in
    let g : a ≤ 2 ^ 23 + 1 = positive_near a n s in
    let i : a / 256 + half ≡ place = omega (arith, e, f, g) in
    omega (arith, ints, i)
only_inside-from (negsuc a) n half place s w h e =
    let f : n % 2 ^ 32 ≡ 2 ^ 32 - 1 - a = word_of_negative a n s in
    let g : a ≤ 2 ^ 23 + 1 = negative_near a n s in
    let i : half ≡ place + a / 256 + 1 = omega (arith, e, f, g) in
    omega (arith, ints, i)
