-- Lower case hexadecimal digits are those of the number that they spell.
use Rattle.std.proofs.Common.{◌≡◌, ℕ, ◌+◌, ◌*◌, ◌/◌, ◌%◌, ◌^◌, ◌<◌, ◌≤◌, ◌==◌, Bool, true, false, cond, List, [], ◌∷◌, length, Some, None, refl, ap, sym, ◌∙◌, arith}
use Rattle.std.specs.Char.{digit_value}
use Rattle.std.specs.List.{list_all}
use Rattle.std.specs.Str.Parse.{digits_value, digits_value_after}
use Rattle.std.proofs.lemmas.Bool.Decides.{nat_tests}
use Rattle.std.proofs.lemmas.Nat.{div-mul-add, pow-add}
use Rattle.std.proofs.Math.Nat.{add-mul, mul-le-mul_right}
use Rattle.gba_terms.specs.Hexadecimal.{hex, hex_digit}
use Rattle.gba_text.proofs.Spans.{first_of_all, rest_of_all}
use Rattle.gba_frozen.specs.Spelling.{has_digits, hex_said, is_digit}
use Rattle.gba_frozen_print.proofs.SpelledAgain.{one_more}

digit-again : (b : ℕ) → is_digit b ≡ true → hex_digit (digit_value b) ≡ b
digit-again b h = grind (arith, nat_tests)

digit-small : (b : ℕ) → is_digit b ≡ true → digit_value b < 16
digit-small b h = grind (arith, nat_tests)

scaled : (d power low : ℕ) → d < 16 → low < power → d * power + low < 16 * power
scaled d power low few small =
    let most : (d + 1) * power ≤ 16 * power = mul-le-mul_right power (omega arith) in
    let split : (d + 1) * power ≡ d * power + 1 * power = add-mul d 1 power in
    let one : 1 * power ≡ power = omega arith in
    omega arith

scaled_below : (d power low next : ℕ) → next ≡ 16 * power → d < 16 → low < power → d * power + low < next
scaled_below d power low next is few small = omega (arith, scaled d power low few small)

-- what digits make of a number before them
record After (before : ℕ) (word : List ℕ) : Type 0 where
  low : ℕ
  small : low < 2 ^ (4 * length word)
  value : digits_value_after 16 before word ≡ before * 2 ^ (4 * length word) + low

after : (before : ℕ) (word : List ℕ) → list_all is_digit word ≡ true → After before word
after before [] h = record { low = 0; small = omega arith; value = omega arith }
after before (b ∷ word) h =
    let digit = first_of_all (is_digit b) (list_all is_digit word) h in
    let rest = after (before * 16 + digit_value b) word (rest_of_all (is_digit b) (list_all is_digit word) h) in
    let longer : 4 * length (b ∷ word) ≡ 4 + 4 * length word = omega arith in
    let next : 2 ^ (4 * length (b ∷ word)) ≡ 16 * 2 ^ (4 * length word) =
    ap (λ k. 2 ^ k) longer ∙ pow-add 2 4 (4 * length word) in
    let below = digit-small b digit in
    record {
      low = digit_value b * 2 ^ (4 * length word) + rest.low;
      small =
          scaled_below (digit_value b) (2 ^ (4 * length word)) rest.low (2 ^ (4 * length (b ∷ word))) next below
          rest.small;
      value =
          rest.value
          ∙ one_more before (digit_value b) (2 ^ (4 * length word)) rest.low (2 ^ (4 * length (b ∷ word))) next;
    }

last_digit : (before d : ℕ) → d < 16 → (before * 16 + d) % 16 ≡ d
last_digit before d small = omega arith

pub hex-sound : (before : ℕ) (word : List ℕ) → list_all is_digit word ≡ true
    → hex (length word) (digits_value_after 16 before word) ≡ word
hex-sound before [] h = refl
hex-sound before (b ∷ word) h =
    let digit = first_of_all (is_digit b) (list_all is_digit word) h in
    let digits = rest_of_all (is_digit b) (list_all is_digit word) h in
    let whole : ℕ = before * 16 + digit_value b in
    let made = after whole word digits in
    let below = digit-small b digit in
    let quotient : digits_value_after 16 whole word / 2 ^ (4 * length word) ≡ whole =
    ap (λ v. v / 2 ^ (4 * length word)) made.value ∙ div-mul-add whole (2 ^ (4 * length word)) made.low made.small in
    let first : digits_value_after 16 whole word / 2 ^ (4 * length word) % 16 ≡ digit_value b =
    ap (λ v. v % 16) quotient ∙ last_digit before (digit_value b) below in
    ap (λ d. hex_digit d ∷ hex (length word) (digits_value_after 16 whole word)) first
    ∙ ap (λ c. c ∷ hex (length word) (digits_value_after 16 whole word)) (digit-again b digit)
    ∙ ap (λ (t : List ℕ). b ∷ t) (hex-sound whole word digits)

pub hex_said-sound : (count : ℕ) (word : List ℕ) (n : ℕ) → hex_said count word ≡ Some n → word ≡ hex count n
unfolding hex_said
hex_said-sound count word n h = by_test (has_digits count word) refl h where
  by_test : (b : Bool) → has_digits count word ≡ b → cond b (Some (digits_value 16 word)) None ≡ Some n
      → word ≡ hex count n
  by_test true e s =
      let value : digits_value 16 word ≡ n = cc in
      let sized = first_of_all (length word == count) (list_all is_digit word) e in
      let long : length word ≡ count = grind (arith, nat_tests) in
      let digits = rest_of_all (length word == count) (list_all is_digit word) e in
      sym (hex-sound 0 word digits) ∙ ap (λ c. hex c (digits_value 16 word)) long ∙ ap (hex count) value
  by_test false e s = absurd cc
