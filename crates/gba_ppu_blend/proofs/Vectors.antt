-- Operations on vectors of halfwords, lane by lane.
use Rattle.std.proofs.Common.{◌≡◌, ℕ, zero, suc, ◌+◌, ◌-◌, ◌*◌, ◌/◌, ◌%◌, ◌^◌, ◌<◌, ◌≤◌, Bool, true, false, cond, ltb, List, [], ◌∷◌, map, length, get_or, replicate, bit_and, refl, ap, ◌∙◌, arith, pow_mono}
use Rattle.std.specs.Prelude.{min}
use Rattle.std.proofs.Math.Nat.{mul-le-mul}
use Rattle.std.proofs.lemmas.Bool.{ltb-true, ltb-false}
use Rattle.std.proofs.lemmas.Nat.{and_mask}
use lib.Lanes.{zip2, sel_l, top}
use Rattle.gba_terms.specs.Bits.{field}
use Rattle.gba_ppu_blend.specs.Colours.{brighter_part, colour_from, darker_part, part_of_both}

abbrev pub right : ℕ → ℕ → ℕ
right a b = a / 2 ^ b

abbrev pub left : ℕ → ℕ → ℕ
left a b = a * 2 ^ b % 65536

abbrev pub plus : ℕ → ℕ → ℕ
plus a b = (a + b) % 65536

abbrev pub minus : ℕ → ℕ → ℕ
minus a b = (a + (65536 - b)) % 65536

abbrev pub times : ℕ → ℕ → ℕ
times a b = a * b % 65536

abbrev pub lower : ℕ → ℕ → ℕ
lower a b = cond (top 15 (cond (ltb a b) 65535 0)) a b

abbrev pub lowers : List ℕ → List ℕ → List ℕ
lowers xs ys = sel_l (map (top 15) (zip2 (λ a b. cond (ltb a b) 65535 0) xs ys)) xs ys

-- ---- one lane

small : (n : ℕ) → n < 65536 → n % 65536 ≡ n
small n h = omega arith

product_fits : (part k : ℕ) → part ≤ 31 → k ≤ 16 → part * k ≤ 496
product_fits part k h w = mul-le-mul {n₁ = part} {m₁ = k} {n₂ = 31} {m₂ = 16} h w

placed : (part low : ℕ) → part ≤ 31 → low ≤ 10 → left part low ≡ part * 2 ^ low
placed part low h w =
    let fits = mul-le-mul {n₁ = part} {m₁ = 2 ^ low} {n₂ = 31} {m₂ = 1024} h (pow_mono {i = low} {j = 10} w) in
    small (part * 2 ^ low) (omega (arith, fits))

lower_is : (a b : ℕ) → lower a b ≡ min a b
lower_is a b = go (ltb a b) refl
  where
    go : (t : Bool) → ltb a b ≡ t → cond (top 15 (cond t 65535 0)) a b ≡ min a b
    go true e = omega (arith, ltb-true a b e)
    go false e = omega (arith, ltb-false a b e)

sum_is : (a b : ℕ) → a ≤ 496 → b ≤ 496 → plus (a % 65536) (b % 65536) / 2 ^ 4 ≡ (a + b) / 16
sum_is a b h k = omega arith

pub one_of_both : (eva evb low p q : ℕ) → eva ≤ 16 → evb ≤ 16 → low ≤ 10 → p ≤ 31 → q ≤ 31
    → left (lower (right (plus (times p eva) (times q evb)) 4) 31) low ≡ part_of_both eva evb p q * 2 ^ low
one_of_both eva evb low p q h k w x y =
    let sum = right (plus (times p eva) (times q evb)) 4 in
    ap (λ n. left n low)
    (lower_is sum 31
    ∙ ap (λ n. min n 31) (sum_is (p * eva) (q * evb) (product_fits p eva x h) (product_fits q evb y k)))
    ∙ placed (part_of_both eva evb p q) low (omega arith) w

more_is : (p n : ℕ) → p ≤ 31 → n ≤ 496 → plus p (n % 65536 / 2 ^ 4) ≡ p + n / 16
more_is p n h k = omega arith

less_is : (p n : ℕ) → p ≤ 31 → n ≤ 496 → n ≤ p * 16 → minus p (n % 65536 / 2 ^ 4) ≡ p - n / 16
less_is p n h k m = omega arith

rest_is : (p : ℕ) → p ≤ 31 → minus 31 p ≡ 31 - p
rest_is p h = omega arith

by_16 : (p k : ℕ) → k ≤ 16 → p * k ≤ p * 16
by_16 p k h = mul-le-mul {n₁ = p} {m₁ = k} {n₂ = p} {m₂ = 16} (omega arith) h

brighter_fits : (p n : ℕ) → p ≤ 31 → n ≤ (31 - p) * 16 → p + n / 16 ≤ 31
brighter_fits p n h k = omega arith

pub one_brighter : (evy low p : ℕ) → evy ≤ 16 → low ≤ 10 → p ≤ 31
    → left (plus p (right (times (minus 31 p) evy) 4)) low ≡ brighter_part evy p * 2 ^ low
one_brighter evy low p h w x =
    ap (λ n. left (plus p (right (times n evy) 4)) low) (rest_is p x)
    ∙ ap (λ n. left n low) (more_is p ((31 - p) * evy) x (product_fits (31 - p) evy (omega arith) h))
    ∙ placed (brighter_part evy p) low (brighter_fits p ((31 - p) * evy) x (by_16 (31 - p) evy h)) w

pub one_darker : (evy low p : ℕ) → evy ≤ 16 → low ≤ 10 → p ≤ 31
    → left (minus p (right (times p evy) 4)) low ≡ darker_part evy p * 2 ^ low
one_darker evy low p h w x =
    ap (λ n. left n low) (less_is p (p * evy) x (product_fits p evy x h) (by_16 p evy h))
    ∙ placed (darker_part evy p) low (omega arith) w

-- ---- all lanes

pub parts_at : (n low : ℕ) (v : List ℕ) (i : ℕ) → length v ≡ n → i < n
    → get_or (zip2 bit_and (zip2 right v (replicate n low)) (replicate n 31)) i 0 ≡ field (get_or v i 0) low 5
parts_at zero low v i l h = absurd (omega arith)
parts_at (suc n) low [] i l h = absurd (omega arith)
parts_at (suc n) low (x ∷ xs) zero l h = and_mask (right x low) 5
parts_at (suc n) low (x ∷ xs) (suc i) l h = parts_at n low xs i (omega arith) (omega arith)

pub parts_count : (n low : ℕ) (v : List ℕ) → length v ≡ n
    → length (zip2 bit_and (zip2 right v (replicate n low)) (replicate n 31)) ≡ n
parts_count zero low [] l = refl
parts_count zero low (x ∷ xs) l = absurd (omega arith)
parts_count (suc n) low [] l = absurd (omega arith)
parts_count (suc n) low (x ∷ xs) l = ap suc (parts_count n low xs (omega arith))

abbrev pub both_vector : ℕ → ℕ → ℕ → ℕ → List ℕ → List ℕ → List ℕ
both_vector n eva evb low ps qs =
    zip2 left
    (lowers (zip2 right (zip2 plus (zip2 times ps (replicate n eva)) (zip2 times qs (replicate n evb))) (replicate n 4))
    (replicate n 31))
    (replicate n low)

pub both_at : (n eva evb low : ℕ) (ps qs : List ℕ) (i : ℕ) → eva ≤ 16 → evb ≤ 16 → low ≤ 10 → length ps ≡ n
    → length qs ≡ n → i < n → get_or ps i 0 ≤ 31 → get_or qs i 0 ≤ 31
    → get_or (both_vector n eva evb low ps qs) i 0 ≡ part_of_both eva evb (get_or ps i 0) (get_or qs i 0) * 2 ^ low
both_at zero eva evb low ps qs i a b w l m h x y = absurd (omega arith)
both_at (suc n) eva evb low [] qs i a b w l m h x y = absurd (omega arith)
both_at (suc n) eva evb low (p ∷ ps) [] i a b w l m h x y = absurd (omega arith)
both_at (suc n) eva evb low (p ∷ ps) (q ∷ qs) zero a b w l m h x y = one_of_both eva evb low p q a b w x y
both_at (suc n) eva evb low (p ∷ ps) (q ∷ qs) (suc i) a b w l m h x y =
    both_at n eva evb low ps qs i a b w (omega arith) (omega arith) (omega arith) x y

pub both_count : (n eva evb low : ℕ) (ps qs : List ℕ) → length ps ≡ n → length qs ≡ n
    → length (both_vector n eva evb low ps qs) ≡ n
both_count zero eva evb low [] qs l m = refl
both_count zero eva evb low (p ∷ ps) qs l m = absurd (omega arith)
both_count (suc n) eva evb low [] qs l m = absurd (omega arith)
both_count (suc n) eva evb low (p ∷ ps) [] l m = absurd (omega arith)
both_count (suc n) eva evb low (p ∷ ps) (q ∷ qs) l m =
    ap suc (both_count n eva evb low ps qs (omega arith) (omega arith))

abbrev pub brighter_vector : ℕ → ℕ → ℕ → List ℕ → List ℕ
brighter_vector n evy low ps =
    zip2 left (zip2 plus ps
    (zip2 right (zip2 times (zip2 minus (replicate n 31) ps) (replicate n evy)) (replicate n 4))) (replicate n low)

pub brighter_at : (n evy low : ℕ) (ps : List ℕ) (i : ℕ) → evy ≤ 16 → low ≤ 10 → length ps ≡ n → i < n
    → get_or ps i 0 ≤ 31 → get_or (brighter_vector n evy low ps) i 0 ≡ brighter_part evy (get_or ps i 0) * 2 ^ low
brighter_at zero evy low ps i a w l h x = absurd (omega arith)
brighter_at (suc n) evy low [] i a w l h x = absurd (omega arith)
brighter_at (suc n) evy low (p ∷ ps) zero a w l h x = one_brighter evy low p a w x
brighter_at (suc n) evy low (p ∷ ps) (suc i) a w l h x = brighter_at n evy low ps i a w (omega arith) (omega arith) x

pub brighter_count : (n evy low : ℕ) (ps : List ℕ) → length ps ≡ n → length (brighter_vector n evy low ps) ≡ n
brighter_count zero evy low [] l = refl
brighter_count zero evy low (p ∷ ps) l = absurd (omega arith)
brighter_count (suc n) evy low [] l = absurd (omega arith)
brighter_count (suc n) evy low (p ∷ ps) l = ap suc (brighter_count n evy low ps (omega arith))

abbrev pub darker_vector : ℕ → ℕ → ℕ → List ℕ → List ℕ
darker_vector n evy low ps =
    zip2 left (zip2 minus ps (zip2 right (zip2 times ps (replicate n evy)) (replicate n 4))) (replicate n low)

pub darker_at : (n evy low : ℕ) (ps : List ℕ) (i : ℕ) → evy ≤ 16 → low ≤ 10 → length ps ≡ n → i < n → get_or ps i 0 ≤ 31
    → get_or (darker_vector n evy low ps) i 0 ≡ darker_part evy (get_or ps i 0) * 2 ^ low
darker_at zero evy low ps i a w l h x = absurd (omega arith)
darker_at (suc n) evy low [] i a w l h x = absurd (omega arith)
darker_at (suc n) evy low (p ∷ ps) zero a w l h x = one_darker evy low p a w x
darker_at (suc n) evy low (p ∷ ps) (suc i) a w l h x = darker_at n evy low ps i a w (omega arith) (omega arith) x

pub darker_count : (n evy low : ℕ) (ps : List ℕ) → length ps ≡ n → length (darker_vector n evy low ps) ≡ n
darker_count zero evy low [] l = refl
darker_count zero evy low (p ∷ ps) l = absurd (omega arith)
darker_count (suc n) evy low [] l = absurd (omega arith)
darker_count (suc n) evy low (p ∷ ps) l = ap suc (darker_count n evy low ps (omega arith))

-- ---- the three parts put together

abbrev pub together : List ℕ → List ℕ → List ℕ → List ℕ
together rs gs bs = zip2 plus (zip2 plus rs gs) bs

pub together_at : (n : ℕ) (rs gs bs : List ℕ) (i r g b : ℕ) → length rs ≡ n → length gs ≡ n → length bs ≡ n → i < n
    → get_or rs i 0 ≡ r * 2 ^ 0 → get_or gs i 0 ≡ g * 2 ^ 5 → get_or bs i 0 ≡ b * 2 ^ 10 → r ≤ 31 → g ≤ 31 → b ≤ 31
    → get_or (together rs gs bs) i 0 ≡ colour_from r g b
together_at zero rs gs bs i r g b l m k h x y z u v w = absurd (omega arith)
together_at (suc n) [] gs bs i r g b l m k h x y z u v w = absurd (omega arith)
together_at (suc n) (c ∷ cs) [] bs i r g b l m k h x y z u v w = absurd (omega arith)
together_at (suc n) (c ∷ cs) (d ∷ ds) [] i r g b l m k h x y z u v w = absurd (omega arith)
together_at (suc n) (c ∷ cs) (d ∷ ds) (e ∷ es) zero r g b l m k h x y z u v w = omega arith
together_at (suc n) (c ∷ cs) (d ∷ ds) (e ∷ es) (suc i) r g b l m k h x y z u v w =
    together_at n cs ds es i r g b (omega arith) (omega arith) (omega arith) (omega arith) x y z u v w

pub together_count : (n : ℕ) (rs gs bs : List ℕ) → length rs ≡ n → length gs ≡ n → length bs ≡ n
    → length (together rs gs bs) ≡ n
together_count zero [] gs bs l m k = refl
together_count zero (c ∷ cs) gs bs l m k = absurd (omega arith)
together_count (suc n) [] gs bs l m k = absurd (omega arith)
together_count (suc n) (c ∷ cs) [] bs l m k = absurd (omega arith)
together_count (suc n) (c ∷ cs) (d ∷ ds) [] l m k = absurd (omega arith)
together_count (suc n) (c ∷ cs) (d ∷ ds) (e ∷ es) l m k =
    ap suc (together_count n cs ds es (omega arith) (omega arith) (omega arith))

pub field_fits : (colour low : ℕ) → field colour low 5 ≤ 31
field_fits colour low = omega arith

pub brighter_most : (evy p : ℕ) → evy ≤ 16 → p ≤ 31 → brighter_part evy p ≤ 31
brighter_most evy p h x = brighter_fits p ((31 - p) * evy) x (by_16 (31 - p) evy h)
