-- The registers of a list: the place of its lowest set bit, and then the registers of the list without that bit.
use Rattle.std.proofs.Common.{◌≡◌, ℕ, zero, suc, ◌+◌, ◌-◌, ◌*◌, ◌/◌, ◌%◌, ◌^◌, ◌<◌, ◌≤◌, min, cond, ◌==◌, List, [], ◌∷◌, length, refl, sym, ap, ap₂, ◌∙◌, arith, mod-lt, zero-lt-suc, pow-suc, add-zero}
use Rattle.std.proofs.lemmas.Nat.{shr-shr}
use Rattle.std.specs.Int.{w32, trailing_zeros}
use lib.Bits.{bit_and, and_le_r, and_self, and_step}
use lib.Count.{count_trailing_zeros, ones, ones-le, under}
use Rattle.gba_terms.specs.Bits.{bit}
use Rattle.gba_exec_transfers.specs.Blocks.{registers_in}
use Rattle.gba_exec_transfers.proofs.Lists.{length-registers_in, registers_in_over}

either_bit : (P : ℕ → Type 0) → P 0 → P 1 → (x : ℕ) → x < 2 → P x
either_bit P clear set zero small = clear
either_bit P clear set (suc zero) small = set
either_bit P clear set (suc (suc x)) small = absurd (omega arith)

-- the places of the set bits among the lowest `count` of x, where the lowest has the place `base`
set_bits : ℕ → ℕ → ℕ → List ℕ
set_bits zero base x = []
set_bits (suc count) base x =
    cond (x % 2 == 1) (base ∷ set_bits count (base + 1) (x / 2)) (set_bits count (base + 1) (x / 2))

registers_in-set_bits : (list count first : ℕ) → registers_in list first count ≡ set_bits count first (list / 2 ^ first)
unfolding registers_in set_bits
registers_in-set_bits list zero first = refl
registers_in-set_bits list (suc count) first =
    let halved : list / 2 ^ (first + 1) ≡ list / 2 ^ first / 2 = sym (shr-shr list first 1) in
    ap (λ rest. cond (bit list first) (first ∷ rest) rest)
    (registers_in-set_bits list count (first + 1) ∙ ap (set_bits count (first + 1)) halved)

abbrev turn : ℕ → ℕ → ℕ → ℕ → List ℕ
turn count base r t = cond (r == 1) (base ∷ set_bits count (base + 1) t) (set_bits count (base + 1) t)

abbrev Goal : ℕ → ℕ → ℕ → ℕ → Type 0
Goal count n base x =
    turn count base (x % 2) (x / 2)
    ≡ (base + under (x % 2) (count_trailing_zeros n (x / 2)))
    ∷ turn count base (bit_and x (x - 1) % 2) (bit_and x (x - 1) / 2)

lowest : (count n base x : ℕ) → count ≤ n → 0 < x → x < 2 ^ count
    → set_bits count base x ≡ (base + count_trailing_zeros n x) ∷ set_bits count base (bit_and x (x - 1))
unfolding set_bits count_trailing_zeros
lowest zero n base x within some small = absurd (omega arith)
lowest (suc count) zero base x within some small = absurd (omega arith)
lowest (suc count) (suc n) base x within some small =
    either_bit (λ r. x % 2 ≡ r → Goal count n base x)
    (even (λ p. lowest count n (base + 1) (x / 2) (omega arith) p (omega (arith, pow-suc 2 count)))) odd
    (x % 2) (mod-lt x (zero-lt-suc 1)) refl
  where
    odd : x % 2 ≡ 1 → Goal count n base x
    odd e =
        let y = bit_and x (x - 1) in
        let half : (x - 1) / 2 ≡ x / 2 = omega arith in
        let low : min (x % 2) ((x - 1) % 2) ≡ 0 = omega arith in
        let is : y ≡ x / 2 * 2 + 0 =
        and_step x (x - 1) ∙ ap₂ (λ u v. u * 2 + v) (ap (bit_and (x / 2)) half ∙ and_self (x / 2)) low in
        let p : y % 2 ≡ 0 = omega arith in
        let q : y / 2 ≡ x / 2 = omega arith in
        ap (λ r. turn count base r (x / 2)) e
        ∙ ap₂ (λ u v. u ∷ v) (sym (ap (λ r. base + under r (count_trailing_zeros n (x / 2))) e ∙ add-zero base))
        (sym (ap₂ (turn count base) p q))

    even : (0 < x / 2
        → set_bits count (base + 1) (x / 2)
        ≡ (base + 1 + count_trailing_zeros n (x / 2)) ∷ set_bits count (base + 1) (bit_and (x / 2) (x / 2 - 1)))
        → x % 2 ≡ 0 → Goal count n base x
    even below e =
        let y = bit_and x (x - 1) in
        let half : (x - 1) / 2 ≡ x / 2 - 1 = omega arith in
        let low : min (x % 2) ((x - 1) % 2) ≡ 0 = omega arith in
        let z = bit_and (x / 2) (x / 2 - 1) in
        let is : y ≡ z * 2 + 0 = and_step x (x - 1) ∙ ap₂ (λ u v. u * 2 + v) (ap (bit_and (x / 2)) half) low in
        let p : y % 2 ≡ 0 = omega arith in
        let q : y / 2 ≡ z = omega arith in
        let t = count_trailing_zeros n (x / 2) in
        let place : base + 1 + t ≡ base + suc t = omega arith in
        ap (λ r. turn count base r (x / 2)) e ∙ below (omega arith)
        ∙ ap₂ (λ u v. u ∷ v) (place ∙ sym (ap (λ r. base + under r t) e)) (sym (ap₂ (turn count base) p q))

place-small : (count n x : ℕ) → count ≤ n → 0 < x → x < 2 ^ count → count_trailing_zeros n x < count
unfolding count_trailing_zeros
place-small zero n x within some small = absurd (omega arith)
place-small (suc count) zero x within some small = absurd (omega arith)
place-small (suc count) (suc n) x within some small =
    either_bit (λ r. x % 2 ≡ r → under r (count_trailing_zeros n (x / 2)) < suc count)
    (λ e.
    let rest : count_trailing_zeros n (x / 2) < count =
    place-small count n (x / 2) (omega arith) (omega arith) (omega (arith, pow-suc 2 count)) in
    omega arith)
    (λ e. omega arith) (x % 2) (mod-lt x (zero-lt-suc 1)) refl

-- the first register of a list
pub first_small : (list : ℕ) → 0 < list → list < 2 ^ 16 → trailing_zeros w32 list < 16
first_small list some small = place-small 16 32 list (omega arith) some small

pub first_below : (list : ℕ) → 0 < list → list < 2 ^ 15 → trailing_zeros w32 list < 15
first_below list some small = place-small 15 32 list (omega arith) some small

-- a list is its first register, and then the list without it
pub first_of_list : (list : ℕ) → 0 < list → list < 2 ^ 16
    → registers_in list 0 16 ≡ trailing_zeros w32 list ∷ registers_in (bit_and list (list - 1)) 0 16
first_of_list list some small =
    let cleared = bit_and list (list - 1) in
    let whole : list / 2 ^ 0 ≡ list = omega arith in
    let left : cleared / 2 ^ 0 ≡ cleared = omega arith in
    registers_in-set_bits list 16 0 ∙ ap (set_bits 16 0) whole
    ∙ lowest 16 32 0 list (omega arith) some small
    ∙ ap₂ (λ u v. u ∷ v) (omega arith) (ap (set_bits 16 0) (sym left) ∙ sym (registers_in-set_bits cleared 16 0))

-- the list without its first register is less
pub rest_less : (list : ℕ) → 0 < list → bit_and list (list - 1) < list
rest_less list some = omega (arith, and_le_r list (list - 1))

-- an empty list has no register
pub none_listed : (list : ℕ) → list ≡ 0 → registers_in list 0 16 ≡ []
none_listed list none = registers_in_over list 0 16 (omega arith)

-- a list has at most sixteen registers
pub most_listed : (list : ℕ) → list < 2 ^ 16 → length (registers_in list 0 16) ≤ 16
most_listed list small =
    let whole : list / 2 ^ 0 ≡ list = omega arith in
    let fits : list / 2 ^ 0 < 2 ^ 16 = omega arith in
    omega (arith, length-registers_in list 0 16 fits, ones-le 16 (list / 2 ^ 0) fits)

-- and one more than without its first
pub one_more_listed : (list : ℕ) → 0 < list → list < 2 ^ 16
    → length (registers_in list 0 16) ≡ suc (length (registers_in (bit_and list (list - 1)) 0 16))
one_more_listed list some small = ap length (first_of_list list some small)
