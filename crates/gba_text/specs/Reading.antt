use Rattle.std.specs.Prelude.{ℕ, ◌+◌, List, [], ◌∷◌, Option, Some, None, Result, Ok, Err}
use Rattle.gba_text.specs.Numbers.{number_of, hex_number_of}
use Rattle.gba_text.specs.Words.{words, fault_of}
use Rattle.gba_text.specs.declared.kinds.TextKind.{TextKind}
use Rattle.gba_text.specs.declared.kinds.TextKind.TheVariants.{Missing, Number}

-- how far a text is read: the number of the line that was given last (0 before the first) and its bytes, the words of
-- it that aren't taken yet, and the lines after it
pub record Reading : Type 0 where
  pub number : ℕ
  pub line : List ℕ
  pub words : List (List ℕ)
  pub lines : List (List ℕ)

-- before the first of these lines
abbrev pub before_first_line : List (List ℕ) → Reading
before_first_line lines = record { number = 0; line = []; words = []; lines = lines }

abbrev pub first_of : List (List ℕ) → Option (List ℕ)
first_of [] = None
first_of (piece ∷ _) = Some piece

abbrev pub rest_of : List (List ℕ) → List (List ℕ)
rest_of [] = []
rest_of (_ ∷ pieces) = pieces

abbrev pub with_line : List (List ℕ) → Reading → Reading
with_line [] r = r
with_line (line ∷ lines) r = record { number = r.number + 1; line = line; words = words line; lines = lines }

-- with the next line given, if there is one
abbrev pub next_line : Reading → Reading
next_line r = with_line r.lines r

-- the next word, or why there is none
abbrev pub word_or : Option TextKind → List (List ℕ) → Result (List ℕ) TextKind
word_or (Some kind) _ = Err kind
word_or None [] = Err Missing
word_or None (word ∷ _) = Ok word

unfoldable pub next_word : Reading → Result (List ℕ) TextKind
next_word r = word_or (fault_of r.line) r.words

abbrev pub or_number : Option ℕ → Result ℕ TextKind
or_number (Some n) = Ok n
or_number None = Err Number

abbrev pub number_in : (List ℕ → Option ℕ) → Result (List ℕ) TextKind → Result ℕ TextKind
number_in read (Ok word) = or_number (read word)
number_in read (Err kind) = Err kind

-- the next word as a number from `least` to `most`, or why there is none
unfoldable pub next_number : ℕ → ℕ → Reading → Result ℕ TextKind
next_number least most r = number_in (number_of least most) (next_word r)

-- the next word as a number of just so many hexadecimal digits, or why there is none
unfoldable pub next_hex_number : ℕ → Reading → Result ℕ TextKind
next_hex_number digits r = number_in (hex_number_of digits) (next_word r)

-- what an answer leaves: without the word that it took, or as it was
abbrev pub after_answer : {T : Type 0} → Result T TextKind → Reading → Reading
after_answer (Ok _) r = record r { words = rest_of r.words }
after_answer (Err _) r = r
