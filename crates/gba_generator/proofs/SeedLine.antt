-- The last line of a source, which has the seed.
use Rattle.std.proofs.Common.{◌≡◌, ◌≤◌, ◌<◌, ◌^◌, ℕ, Bool, true, false, ◌&&◌, ◌==◌, not, nat_le, nat_lt, List, [], ◌∷◌, ◌++◌, length, drop, codes, Some, None, Ok, refl, ap, ◌∙◌, lt-ltb, le-ltb, le-leb, arith, rules}
use Rattle.std.specs.Prelude.{decimal}
use Rattle.std.specs.Char.{is_ascii_digit}
use Rattle.std.specs.Int.{w32, to_le_bytes}
use Rattle.std.specs.List.{list_all, prefix_len}
use Rattle.std.specs.Str.Parse.{digits_value}
use Rattle.std.proofs.lemmas.Bool.Decides.{nat_tests}
use Rattle.std.proofs.lemmas.Fmt.{decimal_nonempty, digits_decimal, digits_value-decimal, length-decimal-le}
use Rattle.std.proofs.lemmas.Str.Parse.{IsNumeralModel, numerals_by_value}
use Rattle.gba_text.specs.Lines.{lines, onto_front}
use Rattle.gba_text.specs.Numbers.{all_digits}
use Rattle.gba_text.proofs.FirstPieces.{lines_feed, lines_more, lines_none}
use Rattle.gba_text.proofs.Spans.{front, back, take-front, drop-back, first_of_all, rest_of_all}
use Rattle.gba_asm_words.specs.Names.{is_label}
use Rattle.gba_asm_words.specs.Numbers.{begins_as_hexadecimal, decimal_of, number_of}
use Rattle.gba_asm_words.specs.Readers.{Address, target_of}
use Rattle.gba_asm_words.specs.Tokens.{Word, Mark, tokens, is_word_byte, is_source_byte, no_semicolon, code_of, fault_of}
use Rattle.gba_asm_words.proofs.FirstTokens.{tokens_none, token_word}
use Rattle.gba_asm.specs.Assembly.{line_bytes}
use Rattle.gba_asm.specs.Directives.{are_items, count_words, directive_of}
use Rattle.gba_asm.specs.Encoding.{item_bytes, items_bytes, statement_bytes}
use Rattle.gba_asm.specs.Places.{place_after}
use Rattle.gba_asm.specs.Statements.{directive_form, label_of, line_says, size_of, split_label, statement_of}
use Rattle.gba_generator.proofs.Rows.{IsRow, known, labelled}

abbrev AllDigits : List ℕ → Type 0
AllDigits ds = all_digits ds ≡ true

own : IsNumeralModel AllDigits (digits_value 10)
own = numerals_by_value AllDigits (search rules)

-- what the decimal digits of a number below 2^32 are
pub record IsNumeral (n : ℕ) (ds : List ℕ) : Type 0 where
  pub some : 1 ≤ length ds
  pub few : length ds ≤ 10
  pub digits : all_digits ds ≡ true
  pub value : digits_value 10 ds ≡ n

pub is-numeral : (n : ℕ) → n < 2 ^ 32 → IsNumeral n (decimal n)
is-numeral n small = record {
  some = decimal_nonempty n (omega arith);
  few = length-decimal-le 10 n (omega arith) (omega arith) (omega arith);
  digits = digits_decimal own n (omega arith);
  value = digits_value-decimal own n (omega arith);
}

front-all : (p : ℕ → Bool) (xs : List ℕ) → list_all p xs ≡ true → front p xs ≡ xs
front-all p [] h = refl
front-all p (x ∷ xs) h =
    rw (first_of_all (p x) (list_all p xs) h)
    (ap (λ ys. x ∷ ys) (front-all p xs (rest_of_all (p x) (list_all p xs) h)))

back-all : (p : ℕ → Bool) (xs : List ℕ) → list_all p xs ≡ true → back p xs ≡ []
back-all p [] h = refl
back-all p (x ∷ xs) h =
    rw (first_of_all (p x) (list_all p xs) h) (back-all p xs (rest_of_all (p x) (list_all p xs) h))

both : (s t : Bool) → s ≡ true → t ≡ true → (s && t) ≡ true
both true t e f = f
both false t e f = absurd cc

-- what holds of each digit holds of digits
all-are : (p : ℕ → Bool) → ((d : ℕ) → is_ascii_digit d ≡ true → p d ≡ true) → (ds : List ℕ) → all_digits ds ≡ true
    → list_all p ds ≡ true
all-are p each [] h = refl
all-are p each (d ∷ ds) h =
    both (p d) (list_all p ds) (each d (first_of_all (is_ascii_digit d) (all_digits ds) h))
    (all-are p each ds (rest_of_all (is_ascii_digit d) (all_digits ds) h))

digit-word : (d : ℕ) → is_ascii_digit d ≡ true → is_word_byte d ≡ true
digit-word d h = grind (arith, nat_tests)

digit-source : (d : ℕ) → is_ascii_digit d ≡ true → is_source_byte d ≡ true
digit-source d h = grind (arith, nat_tests)

digit-code : (d : ℕ) → is_ascii_digit d ≡ true → no_semicolon d ≡ true
digit-code d h = grind (arith, nat_tests)

abbrev no_feed : ℕ → Bool
no_feed b = not (b == 10) && not (b == 13)

tokens-word : (d : ℕ) (ds : List ℕ) → list_all is_word_byte (d ∷ ds) ≡ true → tokens (d ∷ ds) ≡ Word (d ∷ ds) ∷ []
tokens-word d ds h =
    token_word d ds (first_of_all (is_word_byte d) (list_all is_word_byte ds) h)
    ∙ ap (λ word. Word word ∷ tokens (drop (prefix_len is_word_byte (d ∷ ds)) (d ∷ ds)))
    (take-front is_word_byte (d ∷ ds) ∙ front-all is_word_byte (d ∷ ds) h)
    ∙ ap (λ rest. Word (d ∷ ds) ∷ tokens rest) (drop-back is_word_byte (d ∷ ds) ∙ back-all is_word_byte (d ∷ ds) h)
    ∙ ap (λ rest. Word (d ∷ ds) ∷ rest) tokens_none

tokens-digits : (ds : List ℕ) → 1 ≤ length ds → all_digits ds ≡ true → tokens ds ≡ Word ds ∷ []
tokens-digits [] some h = absurd (omega (arith, some))
tokens-digits (d ∷ ds) some h = tokens-word d ds (all-are is_word_byte digit-word (d ∷ ds) h)

-- decimal digits don't begin with `0x`
no-prefix : (d e : ℕ) → is_ascii_digit e ≡ true → (d == 48 && (e == 120 && true)) ≡ false
no-prefix d e h = grind (arith, nat_tests)

abbrev pub seed_line : List ℕ → List ℕ
seed_line ds = codes "seed:   .word " ++ ds

all-source : (ds : List ℕ) → all_digits ds ≡ true → list_all is_source_byte (seed_line ds) ≡ true
all-source ds h = all-are is_source_byte digit-source ds h

seed-code : (ds : List ℕ) → all_digits ds ≡ true → code_of (seed_line ds) ≡ seed_line ds
seed-code ds h =
    take-front no_semicolon (seed_line ds)
    ∙ front-all no_semicolon (seed_line ds) (all-are no_semicolon digit-code ds h)

seed-fault : (ds : List ℕ) → length ds ≤ 10 → all_digits ds ≡ true → fault_of (seed_line ds) ≡ None
unfolding fault_of
seed-fault ds few h =
    let short : length (seed_line ds) ≤ 400 = omega (arith, few) in
    rw (le-ltb _ _ short, seed-code ds h, all-source ds h) refl

seed-tokens : (ds : List ℕ) → 1 ≤ length ds → all_digits ds ≡ true
    → tokens (seed_line ds) ≡ Word (codes "seed") ∷ Mark 58 ∷ Word (codes ".word") ∷ Word ds ∷ []
unfolding tokens
seed-tokens ds some h =
    ap (λ rest. Word (codes "seed") ∷ Mark 58 ∷ Word (codes ".word") ∷ rest) (tokens-digits ds some h)

and-false : (s : Bool) → (s && false) ≡ false
and-false true = refl
and-false false = refl

no-hexadecimal : (ds : List ℕ) → all_digits ds ≡ true → begins_as_hexadecimal ds ≡ false
no-hexadecimal [] h = refl
no-hexadecimal (d ∷ []) h = refl
no-hexadecimal (d ∷ e ∷ ds) h =
    let second =
    first_of_all (is_ascii_digit e) (all_digits ds) (rest_of_all (is_ascii_digit d) (all_digits (e ∷ ds)) h) in
    ap (λ t. nat_le 2 (length (d ∷ e ∷ ds)) && t) (no-prefix d e second) ∙ and-false _

digits-number : (n : ℕ) (ds : List ℕ) → n < 2 ^ 32 → IsNumeral n ds → number_of ds ≡ Some n
unfolding number_of decimal_of
digits-number n ds small is =
    let some : nat_le 1 (length ds) ≡ true = le-leb 1 (length ds) is.some in
    let below : nat_lt n (2 ^ 32) ≡ true = lt-ltb n (2 ^ 32) small in
    rw (no-hexadecimal ds is.digits, some, is.digits, is.value, below) refl

digits-target : (n : ℕ) (ds : List ℕ) → n < 2 ^ 32 → IsNumeral n ds → target_of ds ≡ Some (Address n)
unfolding target_of
digits-target n ds small is = rw (digits-number n ds small is) refl

seed-label : (n : ℕ) (ds : List ℕ) → IsNumeral n ds → label_of (seed_line ds) ≡ Some (codes "seed")
unfolding label_of split_label is_label
seed-label n ds is = rw (seed-fault ds is.few is.digits, seed-code ds is.digits, seed-tokens ds is.some is.digits) refl

seed-place : (n : ℕ) (ds : List ℕ) → n < 2 ^ 32 → IsNumeral n ds
    → place_after (record { address = 100; thumb = false }) (seed_line ds) ≡ record { address = 104; thumb = false }
unfolding place_after line_says split_label is_label statement_of directive_of directive_form are_items size_of
    count_words
seed-place n ds small is =
    rw (
      seed-fault ds is.few is.digits,
      seed-code ds is.digits,
      seed-tokens ds is.some is.digits,
      digits-target n ds small is,
    )
    refl

seed-bytes : (n : ℕ) (ds : List ℕ) → n < 2 ^ 32 → IsNumeral n ds
    → line_bytes known 26 (record { address = 100; thumb = false }) (seed_line ds) ≡ Ok (to_le_bytes w32 n)
unfolding line_bytes line_says label_of split_label is_label statement_of directive_of directive_form are_items size_of
    count_words statement_bytes items_bytes item_bytes
seed-bytes n ds small is =
    rw (
      seed-fault ds is.few is.digits,
      seed-code ds is.digits,
      seed-tokens ds is.some is.digits,
      digits-target n ds small is,
    )
    (rw (digits-target n ds small is) refl)

pub seed-row : (n : ℕ) (ds : List ℕ) → n < 2 ^ 32 → IsNumeral n ds
    → IsRow 26 100 (labelled (codes "seed") (seed_line ds) n)
seed-row n ds small is = record {
  label = seed-label n ds is;
  place = seed-place n ds small is;
  bytes = seed-bytes n ds small is;
}

-- a line before a line feed
line-first : (line rest : List ℕ) → list_all no_feed line ≡ true → lines (line ++ 10 ∷ rest) ≡ line ∷ lines rest
line-first [] rest h = lines_feed rest
line-first (b ∷ line) rest h =
    let here = first_of_all (no_feed b) (list_all no_feed line) h in
    lines_more b (line ++ 10 ∷ rest) (no-feed b here) (no-return b _ here)
    ∙ ap (onto_front b) (line-first line rest (rest_of_all (no_feed b) (list_all no_feed line) h))
  where
    no-feed : (b : ℕ) → no_feed b ≡ true → (b == 10) ≡ false
    no-feed b h = grind (arith, nat_tests)

    no-return : (b : ℕ) (t : Bool) → no_feed b ≡ true → (b == 13 && t) ≡ false
    no-return b t h = by_test (b == 13) refl where
      by_test : (s : Bool) → (b == 13) ≡ s → (s && t) ≡ false
      by_test true e = absurd (grind (arith, nat_tests))
      by_test false e = refl

digit-no-feed : (d : ℕ) → is_ascii_digit d ≡ true → no_feed d ≡ true
digit-no-feed d h = grind (arith, nat_tests)

pub seed-lines : (n : ℕ) (ds : List ℕ) → IsNumeral n ds → lines (seed_line ds ++ 10 ∷ []) ≡ seed_line ds ∷ []
seed-lines n ds is =
    line-first (seed_line ds) [] (all-are no_feed digit-no-feed ds is.digits)
    ∙ ap (λ rest. seed_line ds ∷ rest) lines_none
