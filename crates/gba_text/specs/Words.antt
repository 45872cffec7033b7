use Rattle.std.specs.Prelude.{ℕ, Bool, true, nat_le, nat_lt, ◌&&◌, ◌||◌, ◌==◌, List, [], ◌∷◌, length, Option, Some, None, if◌then◌else◌}
use Rattle.std.specs.List.{list_all}
use Rattle.gba_text.specs.Lines.{onto_front}
use Rattle.gba_text.specs.declared.kinds.TextKind.{TextKind}
use Rattle.gba_text.specs.declared.kinds.TextKind.TheVariants.{Byte, Long}

-- a space (32) or a tab (9)
abbrev pub is_blank : ℕ → Bool
is_blank b = b == 32 || b == 9

-- a byte of a line that is read as words: a blank, or one of `!` (33) to `~` (126)
abbrev pub is_text_byte : ℕ → Bool
is_text_byte b = is_blank b || (nat_le 33 b && nat_le b 126)

-- whether a word that stands right before these bytes ends there
abbrev pub ends_before : List ℕ → Bool
ends_before [] = true
ends_before (b ∷ _) = is_blank b

-- The words of a line. Blanks part them, and stand before the first and after the last as well.
unfoldable pub words : List ℕ → List (List ℕ)
words [] = []
words (b ∷ bs) =
    if is_blank b then words bs
    else if ends_before bs then (b ∷ []) ∷ words bs
    else onto_front b (words bs)

-- the most bytes of a line, without its end
abbrev pub longest_line : ℕ
longest_line = 400

abbrev pub has_text_alone : List ℕ → Bool
has_text_alone line = list_all is_text_byte line

-- why no word of a line can be read, if so: it is too long, or else it has a byte that is neither a blank nor of a word
unfoldable pub fault_of : List ℕ → Option TextKind
fault_of line = if nat_lt longest_line (length line) then Some Long else if has_text_alone line then None else Some Byte
