-- A row that is read is one that is printed: printing what was read gives the line back.
use Rattle.std.proofs.Common.{◌≡◌, ℕ, zero, suc, ◌<◌, ◌==◌, Bool, true, false, cond, not, ◌&&◌, ◌||◌, min, nat_le, List, [], ◌∷◌, ◌++◌, length, get_or, Option, Some, None, Ok, Err, refl, ap, sym, ◌∙◌, subst, append_assoc, arith, rules}
use Rattle.std.specs.Prelude.{decimal, slice_index}
use Rattle.std.specs.Str.{bytes_eq}
use Rattle.std.specs.Str.Parse.{digits_value}
use Rattle.std.proofs.lemmas.Bool.Decides.{nat_tests}
use Rattle.std.proofs.lemmas.Fmt.{decimal-digits_value}
use Rattle.std.proofs.lemmas.List.{append-nil}
use Rattle.std.proofs.lemmas.Slice.Eq.{bytes_eq-Decides}
use Rattle.std.proofs.lemmas.Str.Parse.{IsNumeralModel, numerals_by_value}
use Rattle.gba_text.specs.Lines.{onto_front}
use Rattle.gba_text.specs.Numbers.{all_digits, is_number}
use Rattle.gba_text.specs.Steps.{Taken, taken, holds, or_refused}
use Rattle.gba_text.proofs.Spans.{first_of_all, rest_of_all}
use Rattle.gba_text.proofs.Steps.{bind-ok}
use Rattle.gba_frozen.specs.Lines.{Values, row_said}
use Rattle.gba_frozen.specs.Rows.{all_fit, count_of, keyword_of, number_of_row, number_words, spelled_all, spelling_of}
use Rattle.gba_frozen.specs.Spelling.{decimal_said, greatest, is_plain, joined, number_said, pieces, spelled}
use Rattle.gba_frozen.specs.Words.{LineWords, end_at, exact, number_behind, value_at, values_at}
use Rattle.gba_frozen.specs.declared.kinds.ThawKind.TheVariants as kind
use Rattle.gba_frozen.specs.declared.rows.Spelling.{Spelling}
use Rattle.gba_frozen.specs.declared.rows.Spelling.TheVariants.{Decimal, Word}
use Rattle.gba_frozen_print.specs.Laws.{AreHeld, RowsSound}
use Rattle.gba_frozen_print.proofs.HexSound.{hex_said-sound}

-- a line is its pieces, joined
record IsSplit (line : List ℕ) : Type 0 where
  first : List ℕ
  rest : List (List ℕ)
  parted : pieces line ≡ first ∷ rest
  whole : joined first rest ≡ line

split_more : (b : ℕ) (bs : List ℕ) → IsSplit bs → (t : Bool) → (b == 32) ≡ t → IsSplit (b ∷ bs)
unfolding pieces
split_more b bs h true e =
    let space : b ≡ 32 = grind (arith, nat_tests) in
    record {
      first = [];
      rest = h.first ∷ h.rest;
      parted = rw e (ap (λ (ps : List (List ℕ)). [] ∷ ps) h.parted);
      whole = ap (λ (t : List ℕ). 32 ∷ t) h.whole ∙ ap (λ (c : ℕ). c ∷ bs) (sym space);
    }
split_more b bs h false e = record {
  first = b ∷ h.first;
  rest = h.rest;
  parted = rw e (ap (onto_front b) h.parted);
  whole = ap (λ (t : List ℕ). b ∷ t) h.whole;
}

split : (line : List ℕ) → IsSplit line
unfolding pieces
split [] = record { first = []; rest = []; parted = refl; whole = refl }
split (b ∷ bs) = split_more b bs (split bs) (b == 32) refl

joined-pieces : (line first : List ℕ) (rest : List (List ℕ)) → pieces line ≡ first ∷ rest → joined first rest ≡ line
joined-pieces line first rest h =
    let s = split line in
    let same : first ∷ rest ≡ s.first ∷ s.rest = sym h ∙ s.parted in
    let front : first ≡ s.first = cc in
    let back : rest ≡ s.rest = cc in
    ap (λ w. joined w rest) front ∙ ap (λ ws. joined s.first ws) back ∙ s.whole

-- just this word
exact-sound : (word : List ℕ) (words : LineWords) (t : Taken LineWords Bool) → exact word words ≡ Ok t
    → words ≡ word ∷ t.left
unfolding exact
exact-sound word [] t h = absurd cc
exact-sound word (w ∷ ws) t h = by_test (bytes_eq w word) refl h where
  by_test : (b : Bool) → bytes_eq w word ≡ b → cond b (Ok (taken true ws)) (Err kind.Spelling) ≡ Ok t
      → w ∷ ws ≡ word ∷ t.left
  by_test true e s =
      let same : w ≡ word = (bytes_eq-Decides w word).0 e in
      let left : taken true ws ≡ t = cc in
      ap (λ (v : List ℕ). v ∷ ws) same ∙ ap (λ (r : Taken LineWords Bool). word ∷ r.left) left
  by_test false e s = absurd cc

-- a decimal number that 64 bits hold, but for the greatest
abbrev AllDigits : List ℕ → Type 0
AllDigits ds = all_digits ds ≡ true

own : IsNumeralModel AllDigits (digits_value 10)
own = numerals_by_value AllDigits (search rules)

record IsDecimal (word : List ℕ) : Type 0 where
  some : 0 < length word
  digits : all_digits word ≡ true
  plain : get_or word 0 0 ≡ 48 → length word ≡ 1

plain-parts : (word : List ℕ) → is_plain word ≡ true → IsDecimal word
plain-parts word h =
    let number : is_number word ≡ true =
    first_of_all (is_number word) (length word == 1 || not (slice_index word 0 == 48)) h in
    let front : (length word == 1 || not (slice_index word 0 == 48)) ≡ true =
    rest_of_all (is_number word) (length word == 1 || not (slice_index word 0 == 48)) h in
    let sized = first_of_all (nat_le 1 (length word) && nat_le (length word) 20) (all_digits word) number in
    record {
      some = grind (arith, nat_tests);
      digits = rest_of_all (nat_le 1 (length word) && nat_le (length word) 20) (all_digits word) number;
      plain = λ zero. grind (arith, nat_tests);
    }

decimal_said-sound : (word : List ℕ) (n : ℕ) → decimal_said word ≡ Some n → n < greatest → word ≡ decimal n
unfolding decimal_said
decimal_said-sound word n h small = by_test (is_plain word) refl h where
  by_test : (b : Bool) → is_plain word ≡ b → cond b (Some (min (digits_value 10 word) greatest)) None ≡ Some n
      → word ≡ decimal n
  by_test true e s =
      let value : min (digits_value 10 word) greatest ≡ n = cc in
      let same : digits_value 10 word ≡ n = omega arith in
      let is = plain-parts word e in
      sym (decimal-digits_value own word is.digits is.some is.plain (omega arith)) ∙ ap decimal same
  by_test false e s = absurd cc

number_said-sound : (spelling : Spelling) (word : List ℕ) (n : ℕ) → number_said spelling word ≡ Some n → n < greatest
    → word ≡ spelled spelling n
number_said-sound Decimal word n h small = decimal_said-sound word n h small
number_said-sound Word word n h small = hex_said-sound 8 word n h

value-sound : (spelling : Spelling) (words : LineWords) (t : Taken LineWords ℕ) → value_at spelling words ≡ Ok t
    → t.value < greatest → words ≡ spelled spelling t.value ∷ t.left
unfolding value_at
value-sound spelling [] t h small = absurd cc
value-sound spelling (w ∷ ws) t h small = by_said (number_said spelling w) refl h where
  by_said : (o : Option ℕ) → number_said spelling w ≡ o → or_refused kind.Spelling ws o ≡ Ok t
      → w ∷ ws ≡ spelled spelling t.value ∷ t.left
  by_said (Some n) e s =
      let left : taken n ws ≡ t = cc in
      let value : n ≡ t.value = ap (λ (r : Taken LineWords ℕ). r.value) left in
      let same : w ≡ spelled spelling n = number_said-sound spelling w n e (omega arith) in
      ap (λ (v : List ℕ). v ∷ ws) (same ∙ ap (spelled spelling) value)
      ∙ ap (λ (r : Taken LineWords ℕ). spelled spelling t.value ∷ r.left) left
  by_said None e s = absurd cc

-- so many numbers
record IsRead (spelling : Spelling) (words : LineWords) (front : List ℕ) (t : Taken LineWords (List ℕ)) : Type 0 where
  values : List ℕ
  all : t.value ≡ front ++ values
  read : AreHeld values → words ≡ spelled_all spelling values ++ t.left

values-sound : (spelling : Spelling) (count : ℕ) (front : List ℕ) (words : LineWords) (t : Taken LineWords (List ℕ))
    → values_at spelling count front words ≡ Ok t → IsRead spelling words front t
unfolding values_at AreHeld
values-sound spelling zero front words t h =
    let left : taken front words ≡ t = cc in
    record {
      values = [];
      all = sym (ap (λ (r : Taken LineWords (List ℕ)). r.value) left) ∙ sym (append-nil front);
      read = λ _. ap (λ (r : Taken LineWords (List ℕ)). r.left) left;
    }
values-sound spelling (suc count) front words t h =
    let g = bind-ok (value_at spelling words) _ t h in
    let first = g.0 in
    let rest = values-sound spelling count (front ++ first.value ∷ []) first.left t g.2 in
    record {
      values = first.value ∷ rest.values;
      all = rest.all ∙ append_assoc front (first.value ∷ []) rest.values;
      read =
          λ held. value-sound spelling words first g.1 held.0
          ∙ ap (λ (r : LineWords). spelled spelling first.value ∷ r) (rest.read held.1);
    }

-- the number behind the first word
number_behind-sound : (number : Option ℕ) (words : LineWords) (t : Taken LineWords Bool)
    → number_behind number words ≡ Ok t → words ≡ number_words number ++ t.left
unfolding number_behind
number_behind-sound None words t h =
    let left : taken true words ≡ t = cc in
    ap (λ (r : Taken LineWords Bool). r.left) left
number_behind-sound (Some n) words t h = exact-sound (decimal n) words t h

end-sound : (words : LineWords) (b : Bool) → end_at words ≡ Ok b → words ≡ []
end-sound [] b h = refl
end-sound (w ∷ ws) b h = absurd cc

pub rows-sound : RowsSound
unfolding row_said
rows-sound until which line values held h =
    let spelling = spelling_of which in
    let k = bind-ok (exact (keyword_of which) (pieces line)) _ (Values which values) h in
    let n = bind-ok (number_behind (number_of_row which) k.0.left) _ (Values which values) k.2 in
    let v = bind-ok (values_at spelling (count_of which) [] n.0.left) _ (Values which values) n.2 in
    let e = bind-ok (end_at v.0.left) _ (Values which values) v.2 in
    let f = bind-ok (holds (all_fit until which 0 v.0.value) kind.Number) _ (Values which values) e.2 in
    let same : v.0.value ≡ values = cc in
    let read = values-sound spelling (count_of which) [] n.0.left v.0 v.1 in
    let all : read.values ≡ values = sym read.all ∙ same in
    let none : v.0.left ≡ [] = end-sound v.0.left e.0 e.1 in
    let back : n.0.left ≡ spelled_all spelling values =
    read.read (subst AreHeld (sym all) held) ∙ ap (λ t. spelled_all spelling read.values ++ t) none
    ∙ append-nil (spelled_all spelling read.values) ∙ ap (spelled_all spelling) all in
    let behind : k.0.left ≡ number_words (number_of_row which) ++ spelled_all spelling values =
    number_behind-sound (number_of_row which) k.0.left n.0 n.1
    ∙ ap (λ t. number_words (number_of_row which) ++ t) back in
    let parted : pieces line ≡ keyword_of which ∷ (number_words (number_of_row which) ++ spelled_all spelling values) =
    exact-sound (keyword_of which) (pieces line) k.0 k.1 ∙ ap (λ t. keyword_of which ∷ t) behind in
    joined-pieces line (keyword_of which) (number_words (number_of_row which) ++ spelled_all spelling values) parted
