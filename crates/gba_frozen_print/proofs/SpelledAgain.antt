-- What is spelled is read again as it was.
use Rattle.std.proofs.Common.{◌≡◌, ℕ, zero, suc, ◌+◌, ◌*◌, ◌/◌, ◌%◌, ◌^◌, ◌<◌, ◌≤◌, ◌==◌, Bool, true, not, ◌&&◌, ◌||◌, min, nat_le, List, [], ◌∷◌, ◌++◌, length, take, drop, get_or, Some, refl, ap, sym, ◌∙◌, inl, inr, arith, rules}
use Rattle.std.specs.Prelude.{decimal, slice_index}
use Rattle.std.specs.Char.{digit_value, is_ascii_digit}
use Rattle.std.specs.List.{list_all}
use Rattle.std.specs.Str.Parse.{digits_value, digits_value_after}
use Rattle.std.proofs.lemmas.Bool.{and_parts, cases_lt, eqb-true, le-leb}
use Rattle.std.proofs.lemmas.Bool.Decides.{nat_tests}
use Rattle.std.proofs.lemmas.Fmt.{decimal_nonempty, digits_decimal, digits_value-decimal, first_decimal, length-decimal-le}
use Rattle.std.proofs.lemmas.List.{length-append}
use Rattle.std.proofs.lemmas.List.Folds.{list_all-append}
use Rattle.std.proofs.Math.Nat.{add-mul, mul_assoc, mod-eq_of_lt}
use Rattle.std.proofs.Common.{add_assoc}
use Rattle.std.proofs.lemmas.Nat.{mod-pow-add, pow-add}
use Rattle.std.proofs.lemmas.Str.Parse.{IsNumeralModel, numerals_by_value}
use Rattle.std.proofs.Math.Seq.{take-append_seam, drop-append_seam}
use Rattle.gba_terms.specs.Hexadecimal.{hex, hex_digit}
use Rattle.gba_text.proofs.Spans.{first_of_all, rest_of_all}
use Rattle.gba_text.specs.Numbers.{all_digits, is_number}
use Rattle.gba_frozen.specs.Spelling.{decimal_said, greatest, hex_all, hex_said, is_digit, numbers_in, numbers_said}
use Rattle.gba_frozen_print.specs.Laws.{AreBelow}
use Rattle.gba_frozen.proofs.LinePieces.{no_space}

pub list_all-weaker : (p q : ℕ → Bool) → ((b : ℕ) → p b ≡ true → q b ≡ true) → (xs : List ℕ) → list_all p xs ≡ true
    → list_all q xs ≡ true
list_all-weaker p q weaker [] h = refl
list_all-weaker p q weaker (x ∷ xs) h =
    let first = weaker x (first_of_all (p x) (list_all p xs) h) in
    let rest = list_all-weaker p q weaker xs (rest_of_all (p x) (list_all p xs) h) in
    rw (first, rest) refl

-- decimal numbers
abbrev AllDigits : List ℕ → Type 0
AllDigits ds = all_digits ds ≡ true

own : IsNumeralModel AllDigits (digits_value 10)
own = numerals_by_value AllDigits (search rules)

digit-plain : (b : ℕ) → is_ascii_digit b ≡ true → no_space b ≡ true
digit-plain b h = grind (arith, nat_tests)

pub no_space-decimal : (n : ℕ) → n < 2 ^ 64 → list_all no_space (decimal n) ≡ true
no_space-decimal n small = list_all-weaker is_ascii_digit no_space digit-plain (decimal n) (digits_decimal own n small)

decimal-number : (n : ℕ) → n < 2 ^ 64 → is_number (decimal n) ≡ true
decimal-number n small =
    let some : nat_le 1 (length (decimal n)) ≡ true = le-leb 1 (length (decimal n)) (decimal_nonempty n small) in
    let few : nat_le (length (decimal n)) 20 ≡ true =
    le-leb (length (decimal n)) 20 (length-decimal-le 20 n (omega arith) (omega arith) small) in
    let all : all_digits (decimal n) ≡ true = digits_decimal own n small in
    rw (some, few, all) refl

decimal-plain : (n : ℕ) → n < 2 ^ 64 → (length (decimal n) == 1 || not (slice_index (decimal n) 0 == 48)) ≡ true
decimal-plain zero small =
    let some : 0 < length (decimal 0) = decimal_nonempty 0 small in
    let few : length (decimal 0) ≤ 1 = length-decimal-le 1 0 (omega arith) (omega arith) (omega arith) in
    let one : (length (decimal 0) == 1) ≡ true = grind (arith, nat_tests) in
    rw one refl
decimal-plain (suc n) small =
    let high : 48 < get_or (decimal (suc n)) 0 0 = first_decimal (suc n) (omega arith) small in
    grind (arith, nat_tests)

pub decimal_said-again : (n : ℕ) → n < 2 ^ 64 → decimal_said (decimal n) ≡ Some n
unfolding decimal_said
decimal_said-again n small =
    let number = decimal-number n small in
    let plain = decimal-plain n small in
    let value : digits_value 10 (decimal n) ≡ n = digits_value-decimal own n small in
    let least : min n greatest ≡ n = omega arith in
    rw (number, plain, value, least) refl

-- hexadecimal digits: the test of one, and of the first ones
abbrev is_right : ℕ → Bool
is_right d = is_digit (hex_digit d) && (digit_value (hex_digit d) == d)

abbrev all_right : ℕ → Bool
all_right zero = true
all_right (suc n) = is_right n && all_right n

all_right-at : (n d : ℕ) → all_right n ≡ true → d < n → is_right d ≡ true
all_right-at zero d h lt = absurd (omega arith)
all_right-at (suc n) d h lt =
    let parts = and_parts (is_right n) (all_right n) h in
    elim (cases_lt d n) [
      | inl below ↦ all_right-at n d parts.1 below
      | inr top ↦
          let e : d ≡ n = omega arith in
          rw e parts.0
    ]

hex_digit-digit : (d : ℕ) → d < 16 → is_digit (hex_digit d) ≡ true
hex_digit-digit d lt =
    first_of_all (is_digit (hex_digit d)) (digit_value (hex_digit d) == d) (all_right-at 16 d refl lt)

hex_digit-value : (d : ℕ) → d < 16 → digit_value (hex_digit d) ≡ d
hex_digit-value d lt =
    eqb-true (digit_value (hex_digit d)) d
    (rest_of_all (is_digit (hex_digit d)) (digit_value (hex_digit d) == d) (all_right-at 16 d refl lt))

pub hex-digits : (count n : ℕ) → list_all is_digit (hex count n) ≡ true
hex-digits zero n = refl
hex-digits (suc count) n =
    let here = hex_digit-digit (n / 2 ^ (4 * count) % 16) (omega arith) in
    let rest = hex-digits count n in
    rw (here, rest) refl

pub length-hex : (count n : ℕ) → length (hex count n) ≡ count
length-hex zero n = refl
length-hex (suc count) n = ap suc (length-hex count n)

pub one_more : (before d power rest next : ℕ) → next ≡ 16 * power
    → (before * 16 + d) * power + rest ≡ before * next + (d * power + rest)
one_more before d power rest next is =
    ap (λ k. k + rest) (add-mul (before * 16) d power
    ∙ ap (λ k. k + d * power) (mul_assoc before 16 power ∙ ap (λ q. before * q) (sym is)))
    ∙ add_assoc (before * next) (d * power) rest

hex-after : (count before n : ℕ)
    → digits_value_after 16 before (hex count n) ≡ before * 2 ^ (4 * count) + n % 2 ^ (4 * count)
hex-after zero before n = omega arith
hex-after (suc count) before n =
    let d : ℕ = n / 2 ^ (4 * count) % 16 in
    let value : digit_value (hex_digit d) ≡ d = hex_digit-value d (omega arith) in
    let longer : 4 * suc count ≡ 4 + 4 * count = omega arith in
    let power : 2 ^ (4 * suc count) ≡ 16 * 2 ^ (4 * count) = ap (λ k. 2 ^ k) longer ∙ pow-add 2 4 (4 * count) in
    let rest : n % 2 ^ (4 * suc count) ≡ d * 2 ^ (4 * count) + n % 2 ^ (4 * count) =
    ap (λ k. n % 2 ^ k) longer ∙ mod-pow-add n 4 (4 * count) in
    ap (λ v. digits_value_after 16 (before * 16 + v) (hex count n)) value
    ∙ hex-after count (before * 16 + d) n
    ∙ one_more before d (2 ^ (4 * count)) (n % 2 ^ (4 * count)) (2 ^ (4 * suc count)) power
    ∙ ap (λ r. before * 2 ^ (4 * suc count) + r) (sym rest)

below : (power n : ℕ) → n < power → 0 * power + n % power ≡ n
below power n small = omega (arith, mod-eq_of_lt small)

pub hex-value : (count n : ℕ) → n < 2 ^ (4 * count) → digits_value 16 (hex count n) ≡ n
hex-value count n small = hex-after count 0 n ∙ below (2 ^ (4 * count)) n small

pub hex_said-again : (count n : ℕ) → n < 2 ^ (4 * count) → hex_said count (hex count n) ≡ Some n
unfolding hex_said
hex_said-again count n small =
    let long : (length (hex count n) == count) ≡ true = grind (arith, nat_tests, length-hex) in
    let all = hex-digits count n in
    let value = hex-value count n small in
    rw (long, all, value) refl

space-digit : (b : ℕ) → is_digit b ≡ true → no_space b ≡ true
space-digit b h = grind (arith, nat_tests)

pub no_space-digits : (word : List ℕ) → list_all is_digit word ≡ true → list_all no_space word ≡ true
no_space-digits word h = list_all-weaker is_digit no_space space-digit word h

-- numbers in one word
pub hex_all-digits : (width : ℕ) (ns : List ℕ) → list_all is_digit (hex_all width ns) ≡ true
hex_all-digits width [] = refl
hex_all-digits width (n ∷ ns) =
    let here = hex-digits width n in
    let rest = hex_all-digits width ns in
    list_all-append is_digit (hex width n) (hex_all width ns) ∙ rw (here, rest) refl

pub length-hex_all : (width : ℕ) (ns : List ℕ) → length (hex_all width ns) ≡ width * length ns
length-hex_all width [] = omega arith
length-hex_all width (n ∷ ns) =
    length-append (hex width n) (hex_all width ns)
    ∙ ap (λ k. k + length (hex_all width ns)) (length-hex width n)
    ∙ ap (λ k. width + k) (length-hex_all width ns) ∙ grind arith

pub numbers_in-again : (width : ℕ) (ns : List ℕ) → AreBelow width ns
    → numbers_in width (length ns) (hex_all width ns) ≡ ns
unfolding AreBelow numbers_in
numbers_in-again width [] are = refl
numbers_in-again width (n ∷ ns) are =
    let front : take width (hex width n ++ hex_all width ns) ≡ hex width n =
    ap (λ k. take k (hex width n ++ hex_all width ns)) (sym (length-hex width n))
    ∙ take-append_seam (hex width n) (hex_all width ns) in
    let back : drop width (hex width n ++ hex_all width ns) ≡ hex_all width ns =
    ap (λ k. drop k (hex width n ++ hex_all width ns)) (sym (length-hex width n))
    ∙ drop-append_seam (hex width n) (hex_all width ns) in
    let value = hex-value width n are.0 in
    let rest = numbers_in-again width ns are.1 in
    rw (front, back, value, rest) refl

pub numbers_said-again : (width : ℕ) (ns : List ℕ) → AreBelow width ns
    → numbers_said width (length ns) (hex_all width ns) ≡ Some ns
unfolding numbers_said
numbers_said-again width ns are =
    let long : (length (hex_all width ns) == width * length ns) ≡ true = grind (arith, nat_tests, length-hex_all) in
    let all = hex_all-digits width ns in
    let value = numbers_in-again width ns are in
    rw (long, all, value) refl
