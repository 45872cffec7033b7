-- Key files: the changes of a console's keys, one a line.
use Rattle.std.specs.Prelude.{◌≡◌, ℕ, Bool, true, false, List, [], ◌∷◌, ◌++◌, Option, Some, None, Result, Ok}
use Rattle.gba_text.specs.Lines.{lines}
use Rattle.gba_text.specs.Words.{words}
use Rattle.gba_joblog.specs.Kinds.{JobError}
use Rattle.gba_text.specs.Languages.{Language, Says, answer_of}
use Rattle.gba_text.specs.Steps.{◌>>=◌}
use Rattle.gba_joblog.specs.Changes.{change_at}
use Rattle.gba_joblog.specs.Lines.{is_said}
use Rattle.gba_joblog.specs.Operands.{LineWords}
use Rattle.gba_joblog.specs.declared.job.KeyChange.{KeyChange}
use Rattle.gba_joblog.specs.declared.kinds.JobKind.{JobKind}
use Rattle.gba_joblog.specs.declared.kinds.JobKind.TheVariants as kind

abbrev pub change_if : List KeyChange → LineWords → Bool → Result (Option KeyChange) JobKind
change_if before words false = Ok None
change_if before words true = change_at before words >>= (λ change. Ok (Some change))

-- the change that a line says after those before it; None where it is skipped
unfoldable pub key_line_says : List KeyChange → List ℕ → Result (Option KeyChange) JobKind
key_line_says before line = is_said line >>= change_if before (words line)

abbrev pub plus_change : List KeyChange → Option KeyChange → List KeyChange
plus_change before None = before
plus_change before (Some change) = before ++ change ∷ []

-- the changes once a line is read as well
unfoldable pub changes_with : List KeyChange → List ℕ → Result (List KeyChange) JobKind
changes_with before line = key_line_says before line >>= (λ change. Ok (plus_change before change))

-- the most bytes of a key file
abbrev pub longest_keys : ℕ
longest_keys = 33554432

-- a file of changes; it may end anywhere
abbrev pub key_files : Language (List KeyChange) (List KeyChange) JobKind
key_files = record {
  lines_of = lines;
  longest = longest_keys;
  too_long = kind.Long;
  nothing = [];
  with_line = λ _ before line. changes_with before line;
  at_end = λ _ changes. Ok changes;
}

-- the changes that a key file says, or its refusal
unfoldable pub keys_of : List ℕ → Result (List KeyChange) JobError
keys_of bytes = answer_of key_files bytes

-- the relation and the function are one
abbrev pub KeysAreAnswered : Type 0
KeysAreAnswered = (bytes : List ℕ) → Says key_files bytes (keys_of bytes)

abbrev pub KeysHaveOneAnswer : Type 0
KeysHaveOneAnswer =
    (bytes : List ℕ) (answer : Result (List KeyChange) JobError) → Says key_files bytes answer → answer ≡ keys_of bytes
