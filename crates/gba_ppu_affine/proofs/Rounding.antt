-- Places by words are places by signed numbers.
use Rattle.std.proofs.Common.{◌≡◌, ℕ, suc, ◌+◌, ◌-◌, ◌*◌, ◌/◌, ◌%◌, ◌^◌, ◌<◌, ◌≤◌, Bool, true, false, nat_eq, ap, sym, subst, ◌∙◌, inl, inr, arith}
use Rattle.std.specs.Prelude.{ℤ, pos, negsuc, neg_ℤ, ◌+ℤ◌, ◌*ℤ◌, if◌then◌else◌}
use Rattle.std.specs.Int.{int_div_euclid, int_rem_euclid}
use Rattle.std.proofs.lemmas.Int.{ints}
use Rattle.std.proofs.Math.Nat.{mul-le-mul}
use Rattle.gba_word.specs.Extension.{sign_extension}
use Rattle.gba_ppu_dot.specs.Signed.{signed}
use Rattle.gba_ppu_dot.proofs.Signed.{IsStep, StandsFor, extension_is_step, point, signed_high, signed_low}
use Rattle.gba_ppu_affine.specs.Affine.{map_side}

-- so many steps
steps_low : (step x : ℕ) → step < 2 ^ 15 → x < 240 → StandsFor (2 ^ 23) (pos step *ℤ pos x) (step * x)
steps_low step x h k =
    let b : step * x ≤ 2 ^ 15 * 240 =
    mul-le-mul {n₁ = step} {m₁ = x} {n₂ = 2 ^ 15} {m₂ = 240} (omega arith) (omega arith) in
    record { turns = 0; sum = omega (arith, ints); least = omega (arith, ints); most = omega (arith, ints) }

whole : (step back x : ℕ) → step + back ≡ 2 ^ 32 → step * x + back * x ≡ 2 ^ 32 * x
whole step back x e = let f : (step + back) * x ≡ 2 ^ 32 * x = ap (λ n. n * x) e in omega arith

steps_high : (step less x : ℕ) → step + suc less ≡ 2 ^ 32 → less < 2 ^ 15 → x < 240
    → StandsFor (2 ^ 23) (negsuc less *ℤ pos x) (step * x)
steps_high step less x e h k =
    let b : suc less * x ≤ 2 ^ 15 * 240 =
    mul-le-mul {n₁ = suc less} {m₁ = x} {n₂ = 2 ^ 15} {m₂ = 240} (omega arith) (omega arith) in
    let w : step * x + suc less * x ≡ 2 ^ 32 * x = whole step (suc less) x e in
    steps_back (suc less * x) (step * x) x b w
  where
    steps_back : (back forth x : ℕ) → back ≤ 2 ^ 15 * 240 → forth + back ≡ 2 ^ 32 * x
        → StandsFor (2 ^ 23) (neg_ℤ (pos back)) forth
    steps_back back forth x b w = record {
      turns = x;
      sum = omega (arith, ints);
      least = omega (arith, ints);
      most = omega (arith, ints);
    }

steps_by : (step x : ℕ) → x < 240 → IsStep step → StandsFor (2 ^ 23) (signed step *ℤ pos x) (step * x)
steps_by step x k (inl low) =
    let P : ℤ → Type 0 = λ z. StandsFor (2 ^ 23) (z *ℤ pos x) (step * x) in
    subst P (sym (signed_low step (omega arith))) (steps_low step x low k)
steps_by step x k (inr high) =
    let P : ℤ → Type 0 = λ z. StandsFor (2 ^ 23) (z *ℤ pos x) (step * x) in
    subst P (sym (signed_high step (omega arith) high.1))
    (steps_high step (2 ^ 32 - 1 - step) x (omega arith) (omega arith) k)

added : (z y : ℤ) (n m : ℕ) → StandsFor (2 ^ 31) z n → StandsFor (2 ^ 23) y m
    → StandsFor (2 ^ 31 + 2 ^ 23 + 1) (z +ℤ y) (n + m)
added z y n m a b = record {
  turns = a.turns + b.turns;
  sum = omega (arith, ints, a.sum, b.sum);
  least = omega (arith, ints, a.least, b.least);
  most = omega (arith, ints, a.most, b.most);
}

pub stands : (start parameter x : ℕ) → start < 2 ^ 32 → x < 240
    → StandsFor (2 ^ 31 + 2 ^ 23 + 1) (signed start +ℤ signed (sign_extension parameter 16) *ℤ pos x)
    (start + sign_extension parameter 16 * x)
stands start parameter x h k =
    added (signed start) (signed (sign_extension parameter 16) *ℤ pos x) start (sign_extension parameter 16 * x)
    (point start h)
    (steps_by (sign_extension parameter 16) x k (extension_is_step parameter))

-- the word of such a number
abbrev pub Sum : ℤ → ℕ → Type 0
Sum z n = StandsFor (2 ^ 31 + 2 ^ 23 + 1) z n

word_of_positive : (a n : ℕ) → Sum (pos a) n → n % 2 ^ 32 ≡ a
word_of_positive a n s = omega (arith, ints, s.sum, s.most)

negative_near : (a n : ℕ) → Sum (negsuc a) n → a ≤ 2 ^ 31 + 2 ^ 23 + 1
negative_near a n s = omega (arith, ints, s.least)

word_of_negative : (a n : ℕ) → Sum (negsuc a) n → n % 2 ^ 32 ≡ 2 ^ 32 - 1 - a
word_of_negative a n s = omega (arith, ints, s.sum, s.least)

-- inside a picture
pub inside-from : (z : ℤ) (n place : ℕ) → Sum z n → place < 1024 → int_div_euclid z (pos 256) ≡ pos place
    → n % 2 ^ 32 / 256 ≡ place
inside-from (pos a) n place s h e =
    let f : n % 2 ^ 32 ≡ a = word_of_positive a n s in
    let g : a / 256 ≡ place = cc in
    omega arith
inside-from (negsuc a) n place s h e = cc

pub only_inside-from : (z : ℤ) (n place : ℕ) → Sum z n → place < 1024 → n % 2 ^ 32 / 256 ≡ place
    → int_div_euclid z (pos 256) ≡ pos place
only_inside-from (pos a) n place s h e =
    let f : n % 2 ^ 32 ≡ a = word_of_positive a n s in
    let g : a / 256 ≡ place = omega arith in
    ap pos g
only_inside-from (negsuc a) n place s h e =
    let f : n % 2 ^ 32 ≡ 2 ^ 32 - 1 - a = word_of_negative a n s in
    let g : a ≤ 2 ^ 31 + 2 ^ 23 + 1 = negative_near a n s in
    absurd (omega arith)

-- on a map that wraps
side_by : (P : ℕ → Type 0) (smallest small large : Bool) → P 128 → P 256 → P 512 → P 1024
    → P (if smallest then 128 else if small then 256 else if large then 512 else 1024)
side_by P true small large a b c d = a
side_by P false true large a b c d = b
side_by P false false true a b c d = c
side_by P false false false a b c d = d

each_side : (P : ℕ → Type 0) (size : ℕ) → P 128 → P 256 → P 512 → P 1024 → P (map_side size)
each_side P size a b c d = side_by P (nat_eq size 0) (nat_eq size 1) (nat_eq size 2) a b c d

back_on_map : (a size : ℕ) → a ≤ 2 ^ 31 + 2 ^ 23 + 1
    → map_side size - 1 - a / 256 % map_side size ≡ (2 ^ 32 - 1 - a) / 256 % map_side size
back_on_map a size h =
    let P : ℕ → Type 0 = λ side. side - 1 - a / 256 % side ≡ (2 ^ 32 - 1 - a) / 256 % side in
    each_side P size (omega arith) (omega arith) (omega arith) (omega arith)

pub wrapped-from : (z : ℤ) (n size : ℕ) → Sum z n
    → int_rem_euclid (int_div_euclid z (pos 256)) (pos (map_side size)) ≡ pos (n % 2 ^ 32 / 256 % map_side size)
wrapped-from (pos a) n size s =
    ap (λ word. pos (word / 256 % map_side size)) (sym (word_of_positive a n s))
wrapped-from (negsuc a) n size s =
    ap pos (back_on_map a size (negative_near a n s))
    ∙ ap (λ word. pos (word / 256 % map_side size)) (sym (word_of_negative a n s))
