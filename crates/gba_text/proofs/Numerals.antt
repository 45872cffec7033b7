-- Words of digits.
use Rattle.std.proofs.Common.{◌≡◌, ◌≢◌, ℕ, ◌<◌, ◌≤◌, ◌^◌, Bool, true, false, cond, ◌&&◌, List, [], ◌∷◌, length, get_or, Result, Some, None, lit<, refl, ap, arith, rules}
use Rattle.std.specs.Char.{digit_value, is_ascii_digit, is_ascii_hexdigit}
use Rattle.std.specs.Result.{OkIff, result_ok}
use Rattle.std.specs.Str.{IsAscii}
use Rattle.std.specs.Str.Parse.{AllDigits, ParsesUnsigned, digits_value}
use Rattle.std.proofs.Math.Nat.{pow-le-pow_right}
use Rattle.std.proofs.lemmas.Bool.Decides.{nat_tests}
use Rattle.std.proofs.lemmas.Int.Digits.{digits_value-lt}
use Rattle.std.proofs.lemmas.Result.{Ok-from_Ok_iff}
use Rattle.std.proofs.lemmas.Str.Ascii.{IsAscii-cons}
use Rattle.std.proofs.lemmas.Str.Parse.{numerals_by_value, parse_digits, without_leading_plus_none}
use Rattle.gba_text.proofs.Spans.{first_of_all, rest_of_all}
use Rattle.gba_text.specs.Numbers.{all_digits, all_hex_digits, is_number, is_within, number_of}

digit-small : (c : ℕ) → is_ascii_digit c ≡ true → c < 128
digit-small c h = grind (arith, nat_tests)

hexdigit-small : (c : ℕ) → is_ascii_hexdigit c ≡ true → c < 128
hexdigit-small c h = grind (arith, nat_tests)

hexdigit-value : (c : ℕ) → is_ascii_hexdigit c ≡ true → digit_value c < 16
hexdigit-value c h = grind (arith, nat_tests)

hexdigit-sign : (c : ℕ) → is_ascii_hexdigit c ≡ true → c ≢ 43
hexdigit-sign c h = grind (arith, nat_tests)

pub IsAscii-from_digits : (word : List ℕ) → all_digits word ≡ true → IsAscii word
IsAscii-from_digits [] h = λ i. omega arith
IsAscii-from_digits (d ∷ ds) h = IsAscii-cons d ds (digit-small d (first_of_all (is_ascii_digit d)
    (all_digits ds) h)) (IsAscii-from_digits ds (rest_of_all (is_ascii_digit d) (all_digits ds) h))

pub IsAscii-from_hex_digits : (word : List ℕ) → all_hex_digits word ≡ true → IsAscii word
IsAscii-from_hex_digits [] h = λ i. omega arith
IsAscii-from_hex_digits (d ∷ ds) h = IsAscii-cons d ds (hexdigit-small d (first_of_all (is_ascii_hexdigit d)
    (all_hex_digits ds) h)) (IsAscii-from_hex_digits ds (rest_of_all (is_ascii_hexdigit d) (all_hex_digits ds) h))

-- what `parse` gives of digits
pub parsed_digits : {E : Type 0} (word : List ℕ) (r : Result ℕ E) → ParsesUnsigned 64 10 word r → all_digits word ≡ true
    → OkIff r ((0 < length word) × (digits_value 10 word < 2 ^ 64)) (digits_value 10 word)
parsed_digits word r h all = parse_digits (numerals_by_value (λ ds. all_digits ds
    ≡ true) (search rules)) 64 word r h all

pub AllDigits-from_hex : (word : List ℕ) → all_hex_digits word ≡ true → AllDigits 16 word
AllDigits-from_hex [] h = tt
AllDigits-from_hex (d ∷ ds) h = (
  hexdigit-value d (first_of_all (is_ascii_hexdigit d)
      (all_hex_digits ds) h),
  AllDigits-from_hex ds (rest_of_all (is_ascii_hexdigit d) (all_hex_digits ds) h),
)

pub no_sign : (word : List ℕ) → all_hex_digits word ≡ true → get_or word 0 0 ≢ 43
no_sign [] h = omega arith
no_sign (d ∷ ds) h = hexdigit-sign d (first_of_all (is_ascii_hexdigit d) (all_hex_digits ds) h)

out_by : (least most : ℕ) (word : List ℕ) → ((0 < length word) × (digits_value 10 word < 2 ^ 64) → ⊥)
    → most < 2 ^ 64 → (t : Bool)
    → (is_number word && is_within least most (digits_value 10 word)) ≡ t → t ≡ false
out_by least most word none bound true e =
    let some : 0 < length word = grind (arith, nat_tests) in
    let small : digits_value 10 word < 2 ^ 64 = grind (arith, nat_tests) in
    absurd (none (some, small))
out_by least most word none bound false e = refl

-- digits that say no number that a u64 holds say none in a range of such numbers
pub number_of-none : (least most : ℕ) (word : List ℕ) → ((0 < length word) × (digits_value 10 word < 2 ^ 64) → ⊥)
    → most < 2 ^ 64 → number_of least most word ≡ None
unfolding number_of
number_of-none least most word none bound =
    rw (out_by least most word none bound (is_number word && is_within least most (digits_value 10 word)) refl) refl

small-value : (word : List ℕ) → all_hex_digits word ≡ true → length word ≤ 16 → digits_value 16 word < 2 ^ 64
small-value word h few = omega (
  arith,
  digits_value-lt 16 word (AllDigits-from_hex word h),
  pow-le-pow_right {n = 16}
      (lit< tt) {i = length word} {j = 16} few,
)

-- what `from_str_radix` gives of hexadecimal digits
pub parsed_hex_digits : {E : Type 0} (word : List ℕ) (r : Result ℕ E) → ParsesUnsigned 64 16 word r
    → all_hex_digits word ≡ true → 0 < length word → length word ≤ 16
    → result_ok r ≡ Some (digits_value 16 word)
parsed_hex_digits word r h all some few =
    let plain = rw (without_leading_plus_none word (no_sign word all)) at h in
    ap result_ok (Ok-from_Ok_iff r _ _ plain ((some, AllDigits-from_hex word all), small-value word all few))

-- the range of a number that a word spells
pub number-range : (least most n : ℕ) (word : List ℕ) → number_of least most word ≡ Some n → (least ≤ n) × (n ≤ most)
unfolding number_of
number-range least most n word h = by_test (is_number word && is_within least most (digits_value 10 word)) refl h where
  by_test : (t : Bool) → (is_number word && is_within least most (digits_value 10 word)) ≡ t
      → cond t (Some (digits_value 10 word)) None ≡ Some n → (least ≤ n) × (n ≤ most)
  by_test true e s =
      let same : digits_value 10 word ≡ n = cc in
      let low : least ≤ digits_value 10 word = grind (arith, nat_tests) in
      let high : digits_value 10 word ≤ most = grind (arith, nat_tests) in
      (omega arith, omega arith)
  by_test false e s = absurd cc
