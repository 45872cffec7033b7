use Rattle.std.specs.Prelude.{ℕ, List, [], ◌∷◌, ◌++◌, length, nat_lt, Option, Some, None, Result, Ok, Err, if◌then◌else◌}
use Rattle.gba_store.specs.Files.{Files}
use Rattle.gba_command.specs.Cause.{Cause, Stop, Refused, Absent}

-- What a command reads, in which order, and what comes of it.
pub data Plan (X : Type 0) : Type 0 where
  -- nothing is left to read, and this is what it comes to
  Done : X → Plan X
  -- refused for this cause
  Refuse : Cause → Plan X
  -- the file of this name is read, of at most so many bytes; a longer one is refused for the cause; and then what
  -- follows from its bytes
  Read : List ℕ → ℕ → Cause → (List ℕ → Plan X) → Plan X

-- one plan and then what follows from what it comes to
abbrev pub bind : {X Y : Type 0} → Plan X → (X → Plan Y) → Plan Y
bind (Done x) following = following x
bind (Refuse cause) following = Refuse cause
bind (Read name most long next) following = Read name most long (λ bytes. bind (next bytes) following)

-- a file by itself
abbrev pub file : List ℕ → ℕ → Cause → Plan (List ℕ)
file name most long = Read name most long Done

-- a judgement reads nothing
abbrev pub judgement : {X : Type 0} → Result X Cause → Plan X
judgement (Ok x) = Done x
judgement (Err cause) = Refuse cause

abbrev pub after_file : {Y : Type 0} → List ℕ → ℕ → Cause → (List ℕ → Result Y Stop) → Option (List ℕ) → Result Y Stop
after_file name most long next None = Err (Absent name)
after_file name most long next (Some bytes) = if nat_lt most (length bytes) then Err (Refused long) else next bytes

-- what a plan comes to with these files
unfoldable pub outcome : {X : Type 0} → Files → Plan X → Result X Stop
outcome files (Done x) = Ok x
outcome files (Refuse cause) = Err (Refused cause)
outcome files (Read name most long next) = after_file name most long (λ bytes. outcome files (next bytes)) (files name)

-- a plan for each of these, one after another; those before them came to `done`
unfoldable pub each : {X Y : Type 0} → (X → Plan Y) → List Y → List X → Plan (List Y)
each plan done [] = Done done
each plan done (x ∷ xs) = bind (plan x) (λ y. each plan (done ++ y ∷ []) xs)
