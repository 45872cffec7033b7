use Rattle.std.specs.Prelude.{◌≡◌, ◌⊎◌, ℕ, ◌+◌, true, false, List, length, nat_lt, Result, Ok, Err}
use Rattle.gba_store.specs.declared.outside.ReadError.{ReadError}
use Rattle.gba_store.specs.declared.outside.ReadError.TheVariants as reading
use Rattle.gba_command.specs.Cause.{Stop, Refused, Absent, StoreFails, LacksMemory}
use Rattle.gba_command.specs.Plan.{Plan, Done, Refuse, Read}

-- why a command stops whose read of a file was refused
abbrev pub stop_at : List ℕ → ReadError → Stop
stop_at name reading.Absent = Absent name
stop_at name reading.Failed = StoreFails name
stop_at name reading.NoMemory = LacksMemory

-- How the reads of a plan took a store from the one state to the other, and how they ended. `gives` is what one read
-- does. No read is made but those of the plan, in its order; each was given, or is the last and was refused. Memory may
-- be wanting at any place, and that is the end only if no read was refused for something else.
module _ {Store X : Type 0} (gives : List ℕ → ℕ → Result (List ℕ) ReadError → Store → Store → Type 0) where
  -- nothing is read, and the end is this one
  abbrev pub Rests : Result X Stop → Store → Store → Result X Stop → Type 0
  Rests due old new end = (new ≡ old) × (end ≡ due)

  unfoldable pub GoesTo : Plan X → Store → Store → Result X Stop → Type 0
  GoesTo (Done x) old new end = Rests (Err LacksMemory) old new end ⊎ Rests (Ok x) old new end
  GoesTo (Refuse cause) old new end = Rests (Err LacksMemory) old new end ⊎ Rests (Err (Refused cause)) old new end
  GoesTo (Read name most long next) old new end =
      Rests (Err LacksMemory) old new end
      ⊎ ((refusal : ReadError) × gives name (most + 1) (Err refusal) old new × (end ≡ Err (stop_at name refusal)))
      ⊎ ((mid : Store) × (bytes : List ℕ) × gives name (most + 1) (Ok bytes) old mid
      × (nat_lt most (length bytes) ≡ true) × Rests (Err (Refused long)) mid new end)
      ⊎ ((mid : Store) × (bytes : List ℕ) × gives name (most + 1) (Ok bytes) old mid
      × (nat_lt most (length bytes) ≡ false) × GoesTo (next bytes) mid new end)
