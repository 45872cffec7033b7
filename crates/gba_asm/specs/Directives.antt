-- The directives of a source.
use Rattle.std.specs.Prelude.{ℕ, ◌+◌, Bool, true, false, not, ◌==◌, List, [], ◌∷◌, codes, Option, Some, None, is_some, if◌then◌else◌}
use Rattle.std.specs.Str.{bytes_eq}
use Rattle.gba_asm_words.specs.Numbers.{number_of}
use Rattle.gba_asm_words.specs.Readers.{target_of}
use Rattle.gba_asm_words.specs.Tokens.{Token, Word, Mark}
use Rattle.gba_asm.specs.declared.directives.Directive.{Directive}
use Rattle.gba_asm.specs.declared.directives.Directive.TheVariants as directive
use Rattle.gba_asm.specs.declared.directives.Width.{Width}
use Rattle.gba_asm.specs.declared.directives.Width.TheVariants as width

-- the directive that a word names
unfoldable pub directive_of : List ℕ → Option Directive
directive_of word =
    if bytes_eq word (codes ".arm") then Some (directive.Mode false)
    else if bytes_eq word (codes ".thumb") then Some (directive.Mode true)
    else if bytes_eq word (codes ".word") then Some (directive.Data width.Word)
    else if bytes_eq word (codes ".half") then Some (directive.Data width.Half)
    else if bytes_eq word (codes ".byte") then Some (directive.Data width.Byte)
    else if bytes_eq word (codes ".space") then Some directive.Space
    else if bytes_eq word (codes ".align") then Some directive.Align
    else None

-- the bytes of one item
abbrev pub width_size : Width → ℕ
width_size width.Word = 4
width_size width.Half = 2
width_size width.Byte = 1

-- an item is a number, and in `.word` it may be a label
abbrev pub is_item : Width → List ℕ → Bool
is_item width.Word word = is_some (target_of word)
is_item width.Half word = is_some (number_of word)
is_item width.Byte word = is_some (number_of word)

-- Whether an item is due after a token, which is an item where one is due, and else a comma (44).
abbrev pub next_due : Width → Bool → Token → Option Bool
next_due width true (Word word) = if is_item width word then Some false else None
next_due width true (Mark mark) = None
next_due width false (Word word) = None
next_due width false (Mark mark) = if mark == 44 then Some true else None

abbrev pub goes_on : Option Bool → (Bool → Bool) → Bool
goes_on (Some due) rest = rest due
goes_on None rest = false

-- whether tokens are one item or more, parted by commas
unfoldable pub are_items : Width → Bool → List Token → Bool
are_items width due [] = not due
are_items width due (token ∷ tokens) = goes_on (next_due width due token) (λ next. are_items width next tokens)

-- how many words there are among tokens
unfoldable pub count_words : List Token → ℕ
count_words [] = 0
count_words (Word word ∷ tokens) = count_words tokens + 1
count_words (Mark mark ∷ tokens) = count_words tokens
