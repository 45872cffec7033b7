-- Which lines of a job or a key file say anything.
use Rattle.std.specs.Prelude.{ℕ, Bool, false, List, [], ◌∷◌, length, nat_lt, ◌==◌, Result, Ok, Err, if◌then◌else◌}
use Rattle.gba_text.specs.Words.{words, has_text_alone, longest_line}
use Rattle.gba_joblog.specs.Operands.{has_words}
use Rattle.gba_joblog.specs.declared.kinds.JobKind.{JobKind}
use Rattle.gba_joblog.specs.declared.kinds.JobKind.TheVariants as kind

-- whether a line begins with `#` (35)
abbrev pub is_comment : List ℕ → Bool
is_comment [] = false
is_comment (b ∷ _) = b == 35

-- Whether a line says anything, or else is skipped. Refused are, in this order, a line that is too long, and a line
-- that is no comment and has a byte which is of no word.
unfoldable pub is_said : List ℕ → Result Bool JobKind
is_said line =
    if nat_lt longest_line (length line) then Err kind.Long
    else if is_comment line then Ok false
    else if has_text_alone line then Ok (has_words (words line))
    else Err kind.Byte
