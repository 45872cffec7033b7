use Rattle.std.specs.Prelude.{◌≡◌, ◌≢◌, ◌⊎◌, ℕ, Bool, true, false, ◌||◌, List, [], ◌∷◌, ◌++◌, take, codes, Option, Some, Result, Ok, Err, if◌then◌else◌, unwrap_or}
use Rattle.std.specs.List.{All}
use Rattle.std.specs.Str.{bytes_eq}
use Rattle.gba_store.specs.Files.{Files}
use Rattle.gba_command.specs.Answer.{Finishes}
use Rattle.gba_command.specs.Cause.{Cause}
use Rattle.gba_command.specs.Writing.{Output, Run, SinkState, Wrote, SinkFails, SinkLacks, PerformsAll, at_once, calls_of}

-- What the calls of a run leave in the files of a sink that tells them.

-- the name of standard output
abbrev pub standard_output : List ℕ
standard_output = codes "-"

-- whether one of these files has a name
unfoldable pub is_among : List ℕ → List Output → Bool
is_among name [] = false
is_among name (output ∷ outputs) = bytes_eq output.name name || is_among name outputs

-- the bytes that pieces add to the file of a name, in their order
unfoldable pub added : List ℕ → List Output → List ℕ
added name [] = []
added name (piece ∷ pieces) = (if bytes_eq piece.name name then piece.bytes else []) ++ added name pieces

-- no two of these files have one name
unfoldable pub NamesDiffer : List Output → Type 0
NamesDiffer [] = Unit {0}
NamesDiffer (output ∷ outputs) = (is_among output.name outputs ≡ false) × NamesDiffer outputs

-- None of a run's files is standard output, each piece is one of a file, and the pieces of a file, one after another,
-- are its bytes.
pub record HasOwnFiles (run : Run) : Type 0 where
  pub apart : is_among standard_output run.outputs ≡ false
  pub own : All (λ piece. is_among piece.name run.outputs ≡ true) run.pieces
  pub whole : All (λ output. added output.name run.pieces ≡ output.bytes) run.outputs

-- what standard output holds after the summary, if the run ends with one
abbrev pub with_summary : Result (List ℕ) Cause → Option (List ℕ) → Option (List ℕ)
with_summary (Ok summary) before = Some (unwrap_or before [] ++ summary)
with_summary (Err cause) before = before

-- After a run's calls each of its files holds its bytes, whatever it held before; standard output has gained the
-- summary alone; and every other file is as before.
pub record LeavesFiles (run : Run) (old new : Files) : Type 0 where
  pub outputs : All (λ output. new output.name ≡ Some output.bytes) run.outputs
  pub summary : new standard_output ≡ with_summary run.end (old standard_output)
  pub others : (name : List ℕ) → is_among name run.outputs ≡ false → name ≢ standard_output → new name ≡ old name

-- What a name's file holds once the files of `made` were made empty and the pieces of `front` added: a file that wasn't
-- made is as before.
abbrev pub left_in : List Output → List Output → List ℕ → Option (List ℕ) → Option (List ℕ)
left_in made front name before = if is_among name made then Some (added name front) else before

-- The files that were made empty and the pieces that were added before the calls of a run stopped, and those that
-- weren't. No piece is added before all files are made.
pub record HasStopped (run : Run) (made unmade front left : List Output) : Type 0 where
  pub files : run.outputs ≡ made ++ unmade
  pub pieces : run.pieces ≡ front ++ left
  pub files_first : (unmade ≡ []) ⊎ (front ≡ [])

-- the next file of a run, which is of this name, was made empty
pub record IsEmptied (unmade : List Output) (name : List ℕ) (now : Option (List ℕ)) : Type 0 where
  pub output : Output
  pub later : List Output
  pub next : unmade ≡ output ∷ later
  pub named : output.name ≡ name
  pub file : now ≡ Some []

-- all files are made, and the file of this name holds a front of the next piece more
pub record GainsPiece (unmade left : List Output) (name : List ℕ) (before now : Option (List ℕ)) : Type 0 where
  pub piece : Output
  pub later : List Output
  pub count : ℕ
  pub all_made : unmade ≡ []
  pub next : left ≡ piece ∷ later
  pub named : piece.name ≡ name
  pub file : now ≡ Some (unwrap_or before [] ++ take count piece.bytes)

-- all files are whole, and standard output holds a front of the summary more
pub record GainsSummary (run : Run) (unmade left : List Output) (name : List ℕ)
    (before now : Option (List ℕ)) : Type 0 where
  pub summary : List ℕ
  pub count : ℕ
  pub all_made : unmade ≡ []
  pub all_added : left ≡ []
  pub ends : run.end ≡ Ok summary
  pub named : name ≡ standard_output
  pub file : now ≡ Some (unwrap_or before [] ++ take count summary)

-- what the file of the call that failed holds, for what it held before that call
abbrev pub MayHold : Run → List Output → List Output → List ℕ → Option (List ℕ) → Option (List ℕ) → Type 0
MayHold run unmade left name before now =
    (now ≡ before) ⊎ IsEmptied unmade name now ⊎ GainsPiece unmade left name before now
    ⊎ GainsSummary run unmade left name before now

-- After a call of a run that failed at a file, every other one holds the pieces that were added before.
pub record LeavesFronts (run : Run) (name : List ℕ) (old new : Files) : Type 0 where
  pub made : List Output
  pub unmade : List Output
  pub front : List Output
  pub left : List Output
  pub stopped : HasStopped run made unmade front left
  pub failing : MayHold run unmade left name (left_in made front name (old name)) (new name)
  pub others : (other : List ℕ) → other ≢ name → new other ≡ left_in made front other (old other)

-- the same after a call for which memory was wanting: it does nothing
pub record LeavesPieces (run : Run) (old new : Files) : Type 0 where
  pub made : List Output
  pub unmade : List Output
  pub front : List Output
  pub left : List Output
  pub stopped : HasStopped run made unmade front left
  pub each : (name : List ℕ) → new name ≡ left_in made front name (old name)

module _ (Tells : Type 0) where
  -- where no call of a run failed
  abbrev pub LeavesItsFiles : Type 0
  LeavesItsFiles =
      (run : Run) (old new : SinkState) → Tells → HasOwnFiles run → PerformsAll Tells (calls_of run) old new Wrote
      → LeavesFiles run old.files new.files

  -- where one failed, or memory was wanting in it
  abbrev pub LeavesItsFronts : Type 0
  LeavesItsFronts =
      (run : Run) (old new : SinkState) → Tells → HasOwnFiles run
      → ((name : List ℕ) → PerformsAll Tells (calls_of run) old new (SinkFails name)
      → LeavesFronts run name old.files new.files)
      × (PerformsAll Tells (calls_of run) old new SinkLacks → LeavesPieces run old.files new.files)

  -- where the answer is 0: the run ends with its summary
  abbrev pub ZeroLeavesItsFiles : Type 0
  ZeroLeavesItsFiles =
      (run : Run) (old new : SinkState) → Tells → HasOwnFiles run → Finishes Tells 0 run old new
      → (summary : List ℕ) × (run.end ≡ Ok summary) × LeavesFiles run old.files new.files

-- a run that adds each file in one piece, where names differ
abbrev pub AtOnceIsWhole : Type 0
AtOnceIsWhole =
    (outputs : List Output) (end : Result (List ℕ) Cause) → NamesDiffer outputs
    → is_among standard_output outputs ≡ false → HasOwnFiles (at_once outputs end)
