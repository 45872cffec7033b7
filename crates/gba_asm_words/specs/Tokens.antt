-- The tokens of a line: words and marks. Blanks part them, and `;` ends them.
use Rattle.std.specs.Prelude.{ℕ, Bool, false, nat_lt, not, ◌||◌, ◌==◌, List, [], ◌∷◌, length, take, Option, Some, None, if◌then◌else◌}
use Rattle.std.specs.Char.{is_ascii_alphanumeric}
use Rattle.std.specs.List.{list_all, prefix_len}
use Rattle.gba_text.specs.Words.{is_blank, longest_line}
use Rattle.gba_asm_words.specs.declared.kinds.AsmKind.{AsmKind}
use Rattle.gba_asm_words.specs.declared.kinds.AsmKind.TheVariants.{Size, Unknown}
use Rattle.gba_asm_words.specs.declared.tokens.Token as written
use Rattle.gba_asm_words.specs.declared.tokens.Token.TheVariants as token

pub data Token : Type 0 where
  Word : List ℕ → Token
  Mark : ℕ → Token

-- what a token of the program stands for
abbrev pub token_value : written.Token → Token
token_value (token.Word bytes) = Word bytes.now
token_value (token.Mark mark) = Mark mark

-- a letter, a digit, `.` (46) or `_` (95)
abbrev pub is_word_byte : ℕ → Bool
is_word_byte b = is_ascii_alphanumeric b || b == 46 || b == 95

-- `!` (33), `#` (35), `,` (44), `-` (45), `:` (58), `[` (91), `]` (93), `^` (94), `{` (123) or `}` (125)
abbrev pub is_mark : ℕ → Bool
is_mark b =
    b == 33 || b == 35 || b == 44 || b == 45 || b == 58 || b == 91 || b == 93 || b == 94 || b == 123 || b == 125

-- a byte that may stand outside comments
abbrev pub is_source_byte : ℕ → Bool
is_source_byte b = is_blank b || is_word_byte b || is_mark b

-- whether a word goes on with these bytes
abbrev pub goes_on : List ℕ → Bool
goes_on [] = false
goes_on (b ∷ _) = is_word_byte b

-- a byte before the word that stands first
abbrev pub onto_word : ℕ → List Token → List Token
onto_word b (Word bytes ∷ tokens) = Word (b ∷ bytes) ∷ tokens
onto_word b tokens = Word (b ∷ []) ∷ tokens

-- The tokens of some bytes: a word is as many word bytes as stand together, and every other byte that is no blank is a
-- mark.
unfoldable pub tokens : List ℕ → List Token
tokens [] = []
tokens (b ∷ bs) =
    if is_blank b then tokens bs
    else if not (is_word_byte b) then Mark b ∷ tokens bs
    else if goes_on bs then onto_word b (tokens bs)
    else Word (b ∷ []) ∷ tokens bs

abbrev pub no_semicolon : ℕ → Bool
no_semicolon b = not (b == 59)

-- a line without its comment, which begins at the first `;` (59)
abbrev pub code_of : List ℕ → List ℕ
code_of line = take (prefix_len no_semicolon line) line

-- why no token of a line can be read, if so: it is too long, or else it has a byte that no form uses
unfoldable pub fault_of : List ℕ → Option AsmKind
fault_of line =
    if nat_lt longest_line (length line) then Some Size
    else if list_all is_source_byte (code_of line) then None
    else Some Unknown
