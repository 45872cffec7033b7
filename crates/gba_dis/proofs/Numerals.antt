-- The number that the digits of a number spell.
use Rattle.std.proofs.Common.{◌≡◌, ◌<◌, ◌≤◌, ℕ, zero, suc, ◌+◌, ◌*◌, ◌/◌, ◌%◌, ◌^◌, Bool, true, false, cond, ◌&&◌, List, [], ◌∷◌, length, drop, Some, nat_lt, refl, sym, ap, ◌∙◌, lit<, lt-ltb, arith}
use Rattle.std.specs.Char.{digit_value, is_ascii_hexdigit}
use Rattle.std.specs.List.{list_all}
use Rattle.std.specs.Str.Parse.{digits_value_after, digits_value}
use Rattle.std.proofs.lemmas.Bool.Decides.{nat_tests}
use Rattle.std.proofs.lemmas.Nat.{mod-pow-add, mod_below}
use Rattle.gba_terms.specs.Hexadecimal.{hex, hex_digit}
use Rattle.gba_text.specs.Numbers.{all_hex_digits}
use Rattle.gba_asm_words.specs.Numbers.{hexadecimal_of, number_of}
use Rattle.gba_asm_words.specs.Tokens.{is_word_byte}
use Rattle.gba_dis.specs.Pieces.{digit_count, digits_text, number_text}

digit_back : (d : ℕ) → d < 16 → digit_value (hex_digit d) ≡ d
digit_back d h = grind (arith, nat_tests)

digit_is_hex : (d : ℕ) → d < 16 → is_ascii_hexdigit (hex_digit d) ≡ true
digit_is_hex d h = grind (arith, nat_tests)

pub digit_is_word : (d : ℕ) → d < 16 → is_word_byte (hex_digit d) ≡ true
digit_is_word d h = grind (arith, nat_tests)

nibble : (n c : ℕ) → n / 2 ^ (4 * c) % 16 < 16
nibble n c = mod_below (n / 2 ^ (4 * c)) 16 (lit< tt)

both : (s t : Bool) → s ≡ true → t ≡ true → (s && t) ≡ true
both true t e f = f
both false t e f = cc

pub hex_digits : (c n : ℕ) → all_hex_digits (hex c n) ≡ true
hex_digits zero n = refl
hex_digits (suc c) n = both _ _ (digit_is_hex _ (nibble n c)) (hex_digits c n)

pub hex_words : (c n : ℕ) → list_all is_word_byte (hex c n) ≡ true
hex_words zero n = refl
hex_words (suc c) n = both _ _ (digit_is_word _ (nibble n c)) (hex_words c n)

pub hex_length : (c n : ℕ) → length (hex c n) ≡ c
hex_length zero n = refl
hex_length (suc c) n = ap suc (hex_length c n)

more_digits : (c n : ℕ) → n % 2 ^ (4 * suc c) ≡ (n / 2 ^ (4 * c) % 16) * 2 ^ (4 * c) + n % 2 ^ (4 * c)
more_digits c n =
    let e : 4 * suc c ≡ 4 + 4 * c = omega arith in
    ap (λ k. n % 2 ^ k) e ∙ mod-pow-add n 4 (4 * c)

pub hex_value : (c n acc : ℕ) → digits_value_after 16 acc (hex c n) ≡ acc * 2 ^ (4 * c) + n % 2 ^ (4 * c)
hex_value zero n acc = omega arith
hex_value (suc c) n acc =
    let d = n / 2 ^ (4 * c) % 16 in
    let digit = digit_back d (nibble n c) in
    let rest = hex_value c n (acc * 16 + digit_value (hex_digit d)) in
    let wide : 2 ^ (4 * suc c) ≡ 16 * 2 ^ (4 * c) = pow_four c in
    rest
    ∙ by_parts acc (2 ^ (4 * c)) (2 ^ (4 * suc c)) d (digit_value (hex_digit d)) (n % 2 ^ (4 * c)) (n % 2 ^ (4 * suc c))
    digit wide (more_digits c n)
  where
    pow_four : (c : ℕ) → 2 ^ (4 * suc c) ≡ 16 * 2 ^ (4 * c)
    pow_four c =
        let e : 4 * suc c ≡ suc (suc (suc (suc (4 * c)))) = omega arith in
        ap (λ k. 2 ^ k) e ∙ omega arith

    by_parts : (acc p q d v r s : ℕ) → v ≡ d → q ≡ 16 * p → s ≡ d * p + r → (acc * 16 + v) * p + r ≡ acc * q + s
    by_parts acc p q d v r s e f g = rw (e, f, g) (omega arith)

-- `0x` and eight, four or two digits
pub word_back : (n : ℕ) → n < 2 ^ 32 → number_of (digits_text 8 n) ≡ Some n
unfolding number_of hexadecimal_of digits_text
word_back n h =
    let v : digits_value 16 (hex 8 n) ≡ n = hex_value 8 n 0 ∙ omega arith in
    let t : nat_lt (digits_value 16 (hex 8 n)) (2 ^ 32) ≡ true = rw v (lt-ltb _ _ h) in
    rw (hex_digits 8 n, t) (ap Some v)

pub half_back : (n : ℕ) → n < 2 ^ 16 → number_of (digits_text 4 n) ≡ Some n
unfolding number_of hexadecimal_of digits_text
half_back n h =
    let v : digits_value 16 (hex 4 n) ≡ n = hex_value 4 n 0 ∙ omega arith in
    let t : nat_lt (digits_value 16 (hex 4 n)) (2 ^ 32) ≡ true = rw v (lt-ltb _ _ (omega arith)) in
    rw (hex_digits 4 n, t) (ap Some v)

pub byte_back : (n : ℕ) → n < 2 ^ 8 → number_of (digits_text 2 n) ≡ Some n
unfolding number_of hexadecimal_of digits_text
byte_back n h =
    let v : digits_value 16 (hex 2 n) ≡ n = hex_value 2 n 0 ∙ omega arith in
    let t : nat_lt (digits_value 16 (hex 2 n)) (2 ^ 32) ≡ true = rw v (lt-ltb _ _ (omega arith)) in
    rw (hex_digits 2 n, t) (ap Some v)
