-- The lines of a frozen file, read one after another.
use Rattle.std.proofs.Common.{◌≡◌, ◌≤◌, ◌<◌, ℕ, ◌+◌, true, false, List, [], ◌∷◌, length, Option, Ok, Err, refl, ap, sym, ◌∙◌, arith}
use Rattle.gba_text.proofs.Languages.{answer_of-lines, answer_of-long, lines_say-end, lines_say-more, lines_say-refused}
use Rattle.gba_text.specs.Languages.{answer_of, error_at, lines_say}
use Rattle.gba_text.specs.Steps.{taken}
use Rattle.gba_frozen.specs.Lines.{Said, Nothing, Values, QueueBytes, WaveBytes, MemoryBytes, Colours, Live}
use Rattle.gba_frozen.specs.Reading.{Draft, at_end, fed_lines, frozen_language, is_past, judged, longest_file, nothing_read, read_at, with_line, with_said}
use Rattle.gba_frozen.specs.declared.kinds.Setup.{Setup}
use Rattle.gba_frozen.specs.declared.kinds.ThawKind.{ThawKind}
use Rattle.gba_frozen.specs.declared.kinds.ThawKind.TheVariants as kind
use Rattle.gba_frozen.specs.declared.places.Place.{Place}
use Rattle.gba_frozen.specs.declared.rows.Row.TheVariants as row
use Rattle.gba_frozen_read.specs.Thawed.{with_next}

-- so many lines of a file are read, and come to this; these bytes are left
pub record IsReading (A : Type 0) (setup : Setup) (bytes : List ℕ) (number : ℕ) (rest : List ℕ)
    (d : Draft) : Type 0 where
  pub said : (whole_of : Draft → Option A) → lines_say (frozen_language setup whole_of) number d (fed_lines rest)
      ≡ lines_say (frozen_language setup whole_of) 0 nothing_read (fed_lines bytes)
  pub count : number + length (fed_lines rest) ≡ length (fed_lines bytes)

-- what a line says leaves the place
pub said-there : (said : Said) (d : Draft) → (with_said said d).at ≡ d.at
unfolding with_said
said-there Nothing d = refl
said-there (Values row.Heading values) d = refl
said-there (Values (row.Console n) values) d = refl
said-there (Values row.Clock values) d = refl
said-there (Values row.Halted values) d = refl
said-there (Values (row.Register n) values) d = refl
said-there (Values (row.Timer n) values) d = refl
said-there (Values (row.Dma n) values) d = refl
said-there (Values row.Sequencer values) d = refl
said-there (Values (row.Tone n) values) d = refl
said-there (Values row.Position values) d = refl
said-there (Values (row.Affine n) values) d = refl
said-there (Values row.Serial values) d = refl
said-there (Values row.Known values) d = refl
said-there (Values row.Flash values) d = refl
said-there (Values row.Was values) d = refl
said-there (Values row.Applied values) d = refl
said-there (Values row.Counts values) d = refl
said-there (QueueBytes queue current bytes) d = refl
said-there (WaveBytes bank bytes) d = refl
said-there (MemoryBytes place bytes) d = refl
said-there (Colours line colours) d = refl
said-there (Live sender signal) d = refl

pub begins : (A : Type 0) (setup : Setup) (bytes : List ℕ) → IsReading A setup bytes 0 bytes nothing_read
begins A setup bytes = record { said = λ whole_of. refl; count = omega arith }

with_line-read : (setup : Setup) (d : Draft) (line : List ℕ) (at : Place) (said : Said)
    → read_at setup d.at line ≡ Ok (taken said at) → with_line setup d line ≡ Ok (with_next at said d)
unfolding with_line
with_line-read setup d line at said read = rw read refl

with_line-refused : (setup : Setup) (d : Draft) (line : List ℕ) (k : ThawKind)
    → read_at setup d.at line ≡ Err k → with_line setup d line ≡ Err k
unfolding with_line
with_line-refused setup d line k read = rw read refl

-- one line more is read
pub goes_on : (A : Type 0) (setup : Setup) (bytes : List ℕ) (number : ℕ) (rest left line : List ℕ) (d : Draft)
    (at : Place) (said : Said) → IsReading A setup bytes number rest d → fed_lines rest ≡ line ∷ fed_lines left
    → read_at setup d.at line ≡ Ok (taken said at) → IsReading A setup bytes (number + 1) left (with_next at said d)
goes_on A setup bytes number rest left line d at said h split read = record {
  said = λ whole_of.
      sym (lines_say-more (frozen_language setup whole_of) number d line (fed_lines left) (with_next at said d)
      (with_line-read setup d line at said read))
      ∙ ap (lines_say (frozen_language setup whole_of) number d) (sym split) ∙ h.said whole_of;
  count = omega (arith, h.count, ap length split);
}

-- a line is refused
pub refuses : (A : Type 0) (setup : Setup) (bytes : List ℕ) (number : ℕ) (rest left line : List ℕ) (d : Draft)
    (k : ThawKind) → length bytes ≤ longest_file → IsReading A setup bytes number rest d
    → fed_lines rest ≡ line ∷ fed_lines left → read_at setup d.at line ≡ Err k
    → (whole_of : Draft → Option A) → answer_of (frozen_language setup whole_of) bytes ≡ Err (error_at (number + 1) k)
refuses A setup bytes number rest left line d k short h split read whole_of =
    answer_of-lines (frozen_language setup whole_of) bytes (Err (error_at (number + 1) k)) short
    (sym (h.said whole_of) ∙ ap (lines_say (frozen_language setup whole_of) number d) split
    ∙ lines_say-refused (frozen_language setup whole_of) number d line (fed_lines left) k
    (with_line-refused setup d line k read))

-- no line is left
ends_as : (A : Type 0) (setup : Setup) (bytes : List ℕ) (number : ℕ) (rest : List ℕ) (d : Draft)
    → length bytes ≤ longest_file → IsReading A setup bytes number rest d → fed_lines rest ≡ []
    → (whole_of : Draft → Option A) → answer_of (frozen_language setup whole_of) bytes ≡ at_end whole_of number d
ends_as A setup bytes number rest d short h none whole_of =
    answer_of-lines (frozen_language setup whole_of) bytes (at_end whole_of number d) short
    (sym (h.said whole_of) ∙ ap (lines_say (frozen_language setup whole_of) number d) none
    ∙ lines_say-end (frozen_language setup whole_of) number d)

at_end-past : (A : Type 0) (number : ℕ) (d : Draft) (whole_of : Draft → Option A) → is_past d.at.slot ≡ true
    → at_end whole_of number d ≡ judged number (whole_of d)
unfolding at_end
at_end-past A number d whole_of past = rw past refl

at_end-early : (A : Type 0) (number : ℕ) (d : Draft) (whole_of : Draft → Option A) → is_past d.at.slot ≡ false
    → at_end whole_of number d ≡ Err (error_at (number + 1) kind.Spelling)
unfolding at_end
at_end-early A number d whole_of early = rw early refl

-- all lines are read
pub ends : (A : Type 0) (setup : Setup) (bytes : List ℕ) (number : ℕ) (rest : List ℕ) (d : Draft)
    → length bytes ≤ longest_file → IsReading A setup bytes number rest d → fed_lines rest ≡ []
    → is_past d.at.slot ≡ true → (whole_of : Draft → Option A)
    → answer_of (frozen_language setup whole_of) bytes ≡ judged number (whole_of d)
ends A setup bytes number rest d short h none past whole_of =
    ends_as A setup bytes number rest d short h none whole_of ∙ at_end-past A number d whole_of past

-- the file ends before its last line
pub ends_early : (A : Type 0) (setup : Setup) (bytes : List ℕ) (number : ℕ) (rest : List ℕ) (d : Draft)
    → length bytes ≤ longest_file → IsReading A setup bytes number rest d → fed_lines rest ≡ []
    → is_past d.at.slot ≡ false → (whole_of : Draft → Option A)
    → answer_of (frozen_language setup whole_of) bytes ≡ Err (error_at (number + 1) kind.Spelling)
ends_early A setup bytes number rest d short h none early whole_of =
    ends_as A setup bytes number rest d short h none whole_of ∙ at_end-early A number d whole_of early

-- the file is too long
pub is_long : (A : Type 0) (setup : Setup) (bytes : List ℕ) → longest_file < length bytes
    → (whole_of : Draft → Option A) → answer_of (frozen_language setup whole_of) bytes ≡ Err (error_at 0 kind.Spelling)
is_long A setup bytes long whole_of = answer_of-long (frozen_language setup whole_of) bytes long
