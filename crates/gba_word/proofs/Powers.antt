use Rattle.std.proofs.Common.{◌≡◌, ℕ, zero, suc, ◌+◌, ◌-◌, ◌*◌, ◌/◌, ◌%◌, ◌^◌, ◌<◌, ◌≤◌, ap, sym, ◌∙◌, subst, arith}
use Rattle.std.specs.Int.Bits.{bit_or, or_self}
use Rattle.std.proofs.lemmas.Nat.{pow-add, mod-pow-add, shl-shr, or_comm, or_shifted, shr_below}
use Rattle.std.proofs.Math.Nat.{div-eq_of_lt, mul_assoc, mul-mod_left, pow-le-pow_right, zero-lt-suc}

-- a word has nothing from bit 32 on
pub quotient_past : (n k : ℕ) → n < 2 ^ 32 → 32 ≤ k → n / 2 ^ k ≡ 0
quotient_past n k word past =
    let grown : 2 ^ 32 ≤ 2 ^ k = pow-le-pow_right (zero-lt-suc 1) past in
    div-eq_of_lt (omega arith)

-- a word that is shifted left by more than 32 has no bit below bit 33
pub product_past : (n k : ℕ) → 32 < k → n * 2 ^ k ≡ n * 2 ^ (k - 33) * 2 ^ 33
product_past n k past =
    let split : (k - 33) + 33 ≡ k = omega arith in
    ap (λ (j : ℕ). n * 2 ^ j) (sym split) ∙ ap (λ (p : ℕ). n * p) (pow-add 2 (k - 33) 33)
    ∙ sym (mul_assoc n (2 ^ (k - 33)) (2 ^ 33))

-- the two parts of a turned word don't meet
pub turned_parts : (n k : ℕ) → n < 2 ^ 32 → 0 < k → k < 32
    → bit_or (n / 2 ^ k) (n * 2 ^ (32 - k) % 2 ^ 32) ≡ n / 2 ^ k + n % 2 ^ k * 2 ^ (32 - k)
turned_parts n k word some below =
    let whole : k + (32 - k) ≡ 32 = omega arith in
    let cut : n * 2 ^ (32 - k) % 2 ^ (k + (32 - k))
    ≡ (n * 2 ^ (32 - k) / 2 ^ (32 - k) % 2 ^ k) * 2 ^ (32 - k) + n * 2 ^ (32 - k) % 2 ^ (32 - k) =
    mod-pow-add (n * 2 ^ (32 - k)) k (32 - k) in
    let high : n * 2 ^ (32 - k) % 2 ^ 32 ≡ n % 2 ^ k * 2 ^ (32 - k) =
    ap (λ (j : ℕ). n * 2 ^ (32 - k) % 2 ^ j) (sym whole) ∙ cut
    ∙ rw (shl-shr n (32 - k), mul-mod_left n (2 ^ (32 - k))) (omega arith) in
    let immediate_value : 32 ≡ (32 - k) + k = omega arith in
    let low : n / 2 ^ k < 2 ^ (32 - k) = shr_below n (32 - k) k (subst (λ (j : ℕ). n < 2 ^ j) immediate_value word) in
    ap (bit_or (n / 2 ^ k)) high ∙ or_comm (n / 2 ^ k) (n % 2 ^ k * 2 ^ (32 - k))
    ∙ or_shifted (n % 2 ^ k) (32 - k) (n / 2 ^ k) low ∙ omega arith

-- a word turned as std turns it
pub turned_word : (n k : ℕ) → n < 2 ^ 32 → k < 32
    → bit_or (n / 2 ^ k) (n * 2 ^ ((32 - k) % 32) % 2 ^ 32) ≡ n / 2 ^ k + n % 2 ^ k * 2 ^ (32 - k)
turned_word n zero word below =
    let kept : n * 2 ^ 0 % 2 ^ 32 ≡ n = omega arith in
    let same : n / 2 ^ 0 ≡ n = omega arith in
    ap (bit_or (n / 2 ^ 0)) kept ∙ ap (λ (m : ℕ). bit_or m n) same ∙ or_self n ∙ omega arith
turned_word n (suc k) word below =
    let short : (32 - suc k) % 32 ≡ 32 - suc k = omega arith in
    ap (λ (j : ℕ). bit_or (n / 2 ^ suc k) (n * 2 ^ j % 2 ^ 32)) short ∙ turned_parts n (suc k) word (omega arith) below
