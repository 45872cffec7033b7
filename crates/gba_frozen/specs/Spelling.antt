-- How words of a frozen file are spelled, and what they spell. Words are parted by one space.
use Rattle.std.specs.Prelude.{ℕ, zero, suc, ◌-◌, ◌*◌, ◌^◌, ◌==◌, Bool, not, ◌&&◌, ◌||◌, min, nat_le, List, [], ◌∷◌, ◌++◌, length, take, drop, decimal, slice_index, Option, Some, None, if◌then◌else◌}
use Rattle.std.specs.List.{list_all}
use Rattle.std.specs.Str.Parse.{digits_value}
use Rattle.gba_terms.specs.Hexadecimal.{hex}
use Rattle.gba_text.specs.Lines.{onto_front}
use Rattle.gba_text.specs.Numbers.{is_number}
use Rattle.gba_frozen.specs.declared.rows.Spelling.{Spelling}
use Rattle.gba_frozen.specs.declared.rows.Spelling.TheVariants.{Decimal, Word}

-- the pieces of a line between its spaces (32): one more than it has spaces, and two spaces have an empty piece
-- between them
unfoldable pub pieces : List ℕ → List (List ℕ)
pieces [] = [] ∷ []
pieces (b ∷ bs) = if b == 32 then [] ∷ pieces bs else onto_front b (pieces bs)

-- words after another one, each behind a space
abbrev pub after_words : List (List ℕ) → List ℕ
after_words [] = []
after_words (word ∷ words) = 32 ∷ (word ++ after_words words)

-- a line of words
abbrev pub joined : List ℕ → List (List ℕ) → List ℕ
joined word words = word ++ after_words words

-- how a number is written
abbrev pub spelled : Spelling → ℕ → List ℕ
spelled Decimal n = decimal n
spelled Word n = hex 8 n

-- bytes as two digits each, and halfwords as four
abbrev pub hex_all : ℕ → List ℕ → List ℕ
hex_all width [] = []
hex_all width (n ∷ ns) = hex width n ++ hex_all width ns

-- The number that a word spells, if printing that number gives the word: 1 to 20 decimal digits without a zero in
-- front. Any that 64 bits don't hold counts as the greatest that they do, which is in no range.
abbrev pub greatest : ℕ
greatest = 2 ^ 64 - 1

abbrev pub is_plain : List ℕ → Bool
is_plain word = is_number word && (length word == 1 || not (slice_index word 0 == 48))

unfoldable pub decimal_said : List ℕ → Option ℕ
decimal_said word = if is_plain word then Some (min (digits_value 10 word) greatest) else None

-- a lower case hexadecimal digit
abbrev pub is_digit : ℕ → Bool
is_digit b = (nat_le 48 b && nat_le b 57) || (nat_le 97 b && nat_le b 102)

abbrev pub has_digits : ℕ → List ℕ → Bool
has_digits count word = length word == count && list_all is_digit word

-- the number of so many hexadecimal digits
unfoldable pub hex_said : ℕ → List ℕ → Option ℕ
hex_said count word = if has_digits count word then Some (digits_value 16 word) else None

abbrev pub number_said : Spelling → List ℕ → Option ℕ
number_said Decimal word = decimal_said word
number_said Word word = hex_said 8 word

-- so many numbers of `width` digits each, from the front
unfoldable pub numbers_in : ℕ → ℕ → List ℕ → List ℕ
numbers_in width zero digits = []
numbers_in width (suc count) digits = digits_value 16 (take width digits) ∷ numbers_in width count (drop width digits)

unfoldable pub numbers_said : ℕ → ℕ → List ℕ → Option (List ℕ)
numbers_said width count word = if has_digits (width * count) word then Some (numbers_in width count word) else None
