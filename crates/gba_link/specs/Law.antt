use Rattle.std.specs.Prelude.{◌≡◌, ◌⊎◌, ℕ, List, None, Result, Err}
use Rattle.gba_store.specs.declared.outside.ReadError.{ReadError}
use Rattle.gba_command.specs.Answer.{Answers}
use Rattle.gba_command.specs.Cause.{NoCommand, Stop, Refused, LacksMemory}
use Rattle.gba_command.specs.Reading.{GoesTo}
use Rattle.gba_command.specs.Words.{command_of}
use Rattle.gba_command.specs.Writing.{Run, SinkState}
use Rattle.gba_link.specs.CommandPlan.{plan_of}

-- Words are refused just where they say no command: then nothing is read, and the end is that refusal or want of
-- memory.
abbrev pub RefusesWrongWords : {Store : Type 0} → (List ℕ → ℕ → Result (List ℕ) ReadError → Store → Store → Type 0)
    → Type 0
RefusesWrongWords {Store} gives =
    (words : List (List ℕ)) (old new : Store) (end : Result Run Stop) → GoesTo gives (plan_of words) old new end
    → ((end ≡ Err (Refused NoCommand)) → command_of words ≡ None)
    × (command_of words ≡ None → (new ≡ old) × ((end ≡ Err LacksMemory) ⊎ (end ≡ Err (Refused NoCommand))))

-- The answer is 2 only where the words say no command: no file, no fault, no want of memory and no run that is written
-- brings it. `Tells` says whether the sink tells its files.
abbrev pub TwoIsWrongWords : Type 0 → {Store : Type 0}
    → (List ℕ → ℕ → Result (List ℕ) ReadError → Store → Store → Type 0) → Type 0
TwoIsWrongWords Tells {Store} gives =
    (words : List (List ℕ)) (old new : Store) (end : Result Run Stop) (before after : SinkState)
    → GoesTo gives (plan_of words) old new end → Answers Tells 2 end before after → command_of words ≡ None
