-- What `parse` gives of words of digits.
use Rattle.std.proofs.Common.{◌≡◌, ℕ, ◌<◌, ◌^◌, Bool, true, false, ◌&&◌, cond, List, length, nat_le, nat_lt, Result, Ok, Err, Some, None, refl, arith, rules}
use Rattle.std.specs.Result.{OkIff, result_ok}
use Rattle.std.specs.Str.Parse.{ParsesUnsigned, digits_value}
use Rattle.std.proofs.lemmas.Bool.Decides.{nat_tests}
use Rattle.std.proofs.lemmas.Str.Parse.{numerals_by_value, parse_digits, without_leading_plus_none}
use Rattle.gba_text.specs.Numbers.{all_digits, all_hex_digits}
use Rattle.gba_text.proofs.Numerals.{AllDigits-from_hex, no_sign}
use Rattle.gba_asm_words.specs.Numbers.{decimal_of, hexadecimal_of}

-- a number that is in its range exactly where the test holds
by_range : {E : Type 0} (r : Result ℕ E) (word : List ℕ) (value : ℕ) (all : Bool) → all ≡ true → 0 < length word
    → OkIff r ((0 < length word) × (value < 2 ^ 32)) value
    → result_ok r ≡ cond (nat_le 1 (length word) && all && nat_lt value (2 ^ 32)) (Some value) None
by_range (Ok n) word value all e some h = grind (arith, nat_tests)
by_range (Err r) word value all e some h =
    by_test (nat_lt value (2 ^ 32)) refl where
      by_test : (t : Bool) → nat_lt value (2 ^ 32) ≡ t
          → None ≡ cond (nat_le 1 (length word) && all && nat_lt value (2 ^ 32)) (Some value) None
      by_test true u = absurd (h (some, grind (arith, nat_tests)))
      by_test false u = grind (arith, nat_tests)

pub decimal-parsed : {E : Type 0} (word : List ℕ) (r : Result ℕ E) → ParsesUnsigned 32 10 word r
    → all_digits word ≡ true → 0 < length word → result_ok r ≡ decimal_of word
unfolding decimal_of
decimal-parsed word r h all some =
    by_range r word (digits_value 10 word) (all_digits word) all some
    (parse_digits (numerals_by_value (λ ds. all_digits ds
    ≡ true) (search rules)) 32 word r h all)

same_range : {E : Type 0} (r : Result ℕ E) (value : ℕ) {P Q : Type 0} → OkIff r ((P × Q) × (value < 2 ^ 32)) value
    → Q → P → OkIff r (P × (value < 2 ^ 32)) value
same_range (Ok n) value h q p = ((p, h.0.1), h.1)
same_range (Err e) value h q p = λ both. h ((p, q), both.1)

pub hexadecimal-parsed : {E : Type 0} (word : List ℕ) (r : Result ℕ E) → ParsesUnsigned 32 16 word r
    → all_hex_digits word ≡ true → 0 < length word → result_ok r ≡ hexadecimal_of word
unfolding hexadecimal_of
hexadecimal-parsed word r h all some =
    let plain = rw (without_leading_plus_none word (no_sign word all)) at h in
    by_range r word (digits_value 16 word) (all_hex_digits word) all some
    (same_range r (digits_value 16 word) plain (AllDigits-from_hex word all) some)
