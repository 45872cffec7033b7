use Rattle.std.specs.Prelude.{◌≡◌, ◌≢◌, ◌⊎◌, ℕ, List, Option, Result, Ok, Err}
use Rattle.gba_store.specs.Chosen.{GivesInMemory}
use Rattle.gba_store.specs.Counts.{CountsExactly}
use Rattle.gba_store.specs.Files.{Files, Rose}
use Rattle.gba_store.specs.Memory.{Memory}
use Rattle.gba_store.specs.declared.outside.ReadError.{ReadError}
use Rattle.gba_command.specs.Answer.{Answers}
use Rattle.gba_command.specs.Cause.{Cause, Stop, Refused, Absent, StoreFails, LacksMemory, status_of}
use Rattle.gba_command.specs.Plan.{Plan, outcome}
use Rattle.gba_command.specs.Reading.{GoesTo}
use Rattle.gba_command.specs.Writing.{Run, SinkState}

-- an end that the files alone say
abbrev pub IsOfFiles : {X : Type 0} → Result X Stop → Type 0
IsOfFiles (Ok x) = Unit {0}
IsOfFiles (Err (Refused cause)) = Unit {0}
IsOfFiles (Err (Absent name)) = Unit {0}
IsOfFiles (Err (StoreFails name)) = ⊥
IsOfFiles (Err LacksMemory) = ⊥

-- `gives` is what one read does
module _ {Store : Type 0} (gives : List ℕ → ℕ → Result (List ℕ) ReadError → Store → Store → Type 0) where
  -- Where the store tells its files, a plan that isn't stopped by the store or for memory ends in its outcome.
  abbrev pub EndsInItsOutcome : Type 0 → (Store → Files) → Type 0
  EndsInItsOutcome Tells files =
      (plan : Plan Run) (old new : Store) (end : Result Run Stop) → Tells → GoesTo gives plan old new end
      → IsOfFiles end → outcome (files old) plan ≡ end

  -- A count of the store rose where a file was absent, or a read failed.
  abbrev pub CountsItsStops : (Store → ℕ) → (Store → ℕ) → Type 0
  CountsItsStops absences faults =
      (plan : Plan Run) (old new : Store) (name : List ℕ) →
      (GoesTo gives plan old new (Err (Absent name)) → Rose (absences old) (absences new))
      × (GoesTo gives plan old new (Err (StoreFails name)) → Rose (faults old) (faults new))

  -- Where a store counts exactly, no count rose if memory was wanting: an absence or a fault isn't hidden behind it.
  abbrev pub HidesNothing : (List ℕ → ℕ → Option ReadError → Store → Store → Type 0) → (Store → ℕ) → (Store → ℕ)
      → Type 0
  HidesNothing Reads absences faults =
      CountsExactly Reads absences faults → (plan : Plan Run) (old new : Store)
      → GoesTo gives plan old new (Err LacksMemory)
      → (absences new ≡ absences old) × (faults new ≡ faults old)

-- Over a store in memory a plan has one end, but for want of memory.
abbrev pub EndsOnce : Type 0
EndsOnce =
    (plan : Plan Run) (old new newer : Memory) (end other : Result Run Stop)
    → GoesTo GivesInMemory plan old new end → GoesTo GivesInMemory plan old newer other
    → end ≢ Err LacksMemory → other ≢ Err LacksMemory → end ≡ other

-- the status of a run that is written whole: 0, or that of the refusal with which it ends
abbrev pub status_after : Result (List ℕ) Cause → ℕ
status_after (Ok summary) = 0
status_after (Err cause) = status_of cause

-- A count of the sink rose where writing failed, or memory was wanting in it.
abbrev pub CountsItsEnds : Type 0 → Type 0
CountsItsEnds Tells =
    (status : ℕ) (run : Run) (old new : SinkState) → Answers Tells status (Ok run) old new
    → (status ≡ status_after run.end) ⊎ ((status ≡ 9) × Rose old.faults new.faults)
    ⊎ ((status ≡ 10) × Rose old.wants new.wants)
