-- Every frozen file comes to something or has a refusal, and no file has two of these.
use Rattle.std.specs.Prelude.{◌≡◌, ℕ, Bool, List, Option, Some, None, Result, if◌then◌else◌}
use Rattle.gba_text.specs.Languages.{Says, answer_of}
use Rattle.gba_text.specs.declared.kinds.LineError.{LineError}
use Rattle.gba_frozen.specs.Reading.{Draft, frozen_language}
use Rattle.gba_frozen.specs.declared.kinds.Setup.{Setup}
use Rattle.gba_frozen.specs.declared.kinds.ThawKind.{ThawKind}

-- what a whole file comes to, where it passes a test
abbrev pub kept_if : (Draft → Bool) → Draft → Option Draft
kept_if sound d = if sound d then Some d else None

-- whatever the test of the whole is
abbrev pub IsAnswered : Type 0
IsAnswered = (setup : Setup) (sound : Draft → Bool) (bytes : List ℕ)
    → Says (frozen_language setup (kept_if sound)) bytes (answer_of (frozen_language setup (kept_if sound)) bytes)

abbrev pub HasOneAnswer : Type 0
HasOneAnswer = (setup : Setup) (sound : Draft → Bool) (bytes : List ℕ) (answer : Result Draft (LineError ThawKind))
    → Says (frozen_language setup (kept_if sound)) bytes answer
    → answer ≡ answer_of (frozen_language setup (kept_if sound)) bytes
