-- Languages of lines: files that are read line by line, up to the first line that is refused.
use Rattle.std.specs.Prelude.{◌≡◌, ◌≤◌, ◌<◌, ℕ, ◌+◌, ◌⊎◌, List, [], ◌∷◌, ◌++◌, length, nat_lt, Result, Ok, Err, if◌then◌else◌}
use Rattle.gba_text.specs.declared.kinds.LineError.{LineError}

-- A language of lines: the lines of a file, the most bytes of a file and the refusal of a longer one, what is said
-- before the first line, what is said once the line of this number is read as well, or why that line is refused, and
-- what a file of so many lines comes to at its end.
pub record Language (S A K : Type 0) : Type 0 where
  pub lines_of : List ℕ → List (List ℕ)
  pub longest : ℕ
  pub too_long : K
  pub nothing : S
  pub with_line : ℕ → S → List ℕ → Result S K
  pub at_end : ℕ → S → Result A (LineError K)

abbrev pub error_at : {K : Type 0} → ℕ → K → LineError K
error_at line kind = record { line = line; kind = kind }

-- None of these lines, which stand after so many others, is refused, and they lead from what was said to what is said.
unfoldable pub Leads : {S A K : Type 0} → Language S A K → ℕ → S → List (List ℕ) → S → Type 0
Leads language number from [] to = from ≡ to
Leads {S} language number from (line ∷ rest) to =
    (mid : S) × (language.with_line (number + 1) from line ≡ Ok mid) × Leads language (number + 1) mid rest to

-- The first refused one of these lines, which stand after so many others: those before it aren't refused, and after
-- them it is.
pub record StopsAt {S A K : Type 0} (language : Language S A K) (number : ℕ) (from : S) (lines : List (List ℕ))
    (e : LineError K) : Type 0 where
  pub before : List (List ℕ)
  pub line : List ℕ
  pub after : List (List ℕ)
  pub said : S
  pub place : lines ≡ before ++ line ∷ after
  pub count : e.line ≡ number + length before + 1
  pub leads : Leads language number from before said
  pub refusal : language.with_line e.line said line ≡ Err e.kind

-- a file that isn't too long, and a line of it is refused
pub record IsRefusedAt {S A K : Type 0} (language : Language S A K) (bytes : List ℕ) (e : LineError K) : Type 0 where
  pub short : length bytes ≤ language.longest
  pub stops : StopsAt language 0 language.nothing (language.lines_of bytes) e

-- a file that isn't too long, and no line of it is refused: what it comes to at its end
pub record EndsIn {S A K : Type 0} (language : Language S A K) (bytes : List ℕ)
    (answer : Result A (LineError K)) : Type 0 where
  pub short : length bytes ≤ language.longest
  pub said : S
  pub leads : Leads language 0 language.nothing (language.lines_of bytes) said
  pub end : language.at_end (length (language.lines_of bytes)) said ≡ answer

-- What a file says, or its refusal. A file is refused with line 0 where it is too long; else at its first refused line;
-- else as its end is.
abbrev pub Says : {S A K : Type 0} → Language S A K → List ℕ → Result A (LineError K) → Type 0
Says language bytes (Ok said) = EndsIn language bytes (Ok said)
Says language bytes (Err e) =
    ((language.longest < length bytes) × (e ≡ error_at 0 language.too_long))
    ⊎ IsRefusedAt language bytes e
    ⊎ EndsIn language bytes (Err e)

-- the same as a function: what lines say, one after another, that stand after so many others
abbrev pub go_on : {S A K : Type 0} → ℕ → (S → Result A (LineError K)) → Result S K → Result A (LineError K)
go_on number rest (Ok said) = rest said
go_on number rest (Err kind) = Err (error_at number kind)

unfoldable pub lines_say : {S A K : Type 0} → Language S A K → ℕ → S → List (List ℕ) → Result A (LineError K)
lines_say language number said [] = language.at_end number said
lines_say language number said (line ∷ rest) =
    go_on (number + 1) (λ mid. lines_say language (number + 1) mid rest) (language.with_line (number + 1) said line)

unfoldable pub answer_of : {S A K : Type 0} → Language S A K → List ℕ → Result A (LineError K)
answer_of language bytes =
    if nat_lt language.longest (length bytes) then Err (error_at 0 language.too_long)
    else lines_say language 0 language.nothing (language.lines_of bytes)
