-- The pieces of which the lines of a listing are made: words, and the marks between them.
use Rattle.std.specs.Prelude.{ℕ, zero, suc, ◌+◌, ◌-◌, nat_lt, ◌==◌, Bool, true, false, List, [], ◌∷◌, ◌++◌, if◌then◌else◌}
use Rattle.gba_terms.specs.Bits.{bit}
use Rattle.gba_terms.specs.Hexadecimal.{hex}

-- a word that a blank follows; a word; a comma that a blank follows; another mark
pub data Piece : Type 0 where
  Name : List ℕ → Piece
  Plain : List ℕ → Piece
  Comma : Piece
  Mark : ℕ → Piece

abbrev pub piece_text : Piece → List ℕ
piece_text (Name word) = word ++ 32 ∷ []
piece_text (Plain word) = word
piece_text Comma = 44 ∷ 32 ∷ []
piece_text (Mark mark) = mark ∷ []

-- the text of pieces, one after another
abbrev pub text_of : List Piece → List ℕ
text_of [] = []
text_of (piece ∷ pieces) = piece_text piece ++ text_of pieces

-- `r` (114) and a register's number
unfoldable pub register_name : ℕ → List ℕ
register_name n = if nat_lt n 10 then 114 ∷ (48 + n) ∷ [] else 114 ∷ 49 ∷ (48 + (n - 10)) ∷ []

abbrev pub register : ℕ → Piece
register n = Plain (register_name n)

-- how many hexadecimal digits a number of 32 bits has without leading zeros
abbrev pub digit_count : ℕ → ℕ
digit_count n =
    if nat_lt n 0x10 then 1
    else if nat_lt n 0x100 then 2
    else if nat_lt n 0x1000 then 3
    else if nat_lt n 0x10000 then 4
    else if nat_lt n 0x100000 then 5
    else if nat_lt n 0x1000000 then 6
    else if nat_lt n 0x10000000 then 7
    else 8

-- `0x` and so many digits of a number
unfoldable pub digits_text : ℕ → ℕ → List ℕ
digits_text count n = 48 ∷ 120 ∷ hex count n

abbrev pub digits : ℕ → ℕ → Piece
digits count n = Plain (digits_text count n)

-- `0x` and a number without leading zeros
unfoldable pub number_text : ℕ → List ℕ
number_text n = digits_text (digit_count n) n

abbrev pub number : ℕ → Piece
number n = Plain (number_text n)

-- an address, in eight digits
abbrev pub address_piece : ℕ → Piece
address_piece address = digits 8 address

-- The registers of a list from this one on, of so many; bit n of a list is register n, and a comma parts them.
unfoldable pub entries_from : ℕ → ℕ → Bool → ℕ → List Piece
entries_from zero n first list = []
entries_from (suc more) n first list =
    if bit list n
    then (if first then register n ∷ entries_from more (n + 1) false list
    else Comma ∷ register n ∷ entries_from more (n + 1) false list)
    else entries_from more (n + 1) first list

-- the registers of a list
abbrev pub entries : ℕ → List Piece
entries list = entries_from 16 0 true list

-- a list of registers in braces (123 and 125)
unfoldable pub braces : ℕ → List Piece
braces list = Mark 123 ∷ (entries list ++ Mark 125 ∷ [])
