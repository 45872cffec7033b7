use Rattle.std.specs.Prelude.{◌≡◌, ◌⊎◌, ℕ, ◌≤◌, List, [], ◌∷◌, ◌++◌, map, codes, Result, Ok, Err}
use Rattle.gba_command.specs.Cause.{Cause}
pub use Rattle.gba_store.specs.Files.{SinkState}
use Rattle.gba_store.specs.Files.{Files, Rose, Created, Appended, CreateFailed, AppendFailed}

-- a call of a sink: a file is made empty, or a piece is added at its end
pub data Call : Type 0 where
  Create : List ℕ → Call
  Append : List ℕ → List ℕ → Call

-- a file that is written: its name and its bytes
pub record Output : Type 0 where
  pub name : List ℕ
  pub bytes : List ℕ

-- What a command writes that isn't refused before: its files, whole, in the order in which they are made empty; the
-- pieces that are added to them, in their order, each with its file's name; and then the summary on standard output;
-- or, where a digest that is stated of one of these files isn't its digest, the cause of the refusal, once all files
-- are whole.
pub record Run : Type 0 where
  pub outputs : List Output
  pub pieces : List Output
  pub end : Result (List ℕ) Cause

-- a run that adds each file in one piece
abbrev pub at_once : List Output → Result (List ℕ) Cause → Run
at_once outputs end = record { outputs = outputs; pieces = outputs; end = end }

abbrev pub creation : Output → Call
creation output = Create output.name

abbrev pub addition : Output → Call
addition output = Append output.name output.bytes

abbrev pub line_call : List ℕ → Call
line_call line = Append (codes "-") line

-- the calls of a run, in order: every file is made empty, then the pieces are added, then comes the summary, if the run
-- ends with one
abbrev pub file_calls : Run → List Call
file_calls run = map creation run.outputs ++ map addition run.pieces

abbrev pub summary_calls : Result (List ℕ) Cause → List Call
summary_calls (Ok summary) = line_call summary ∷ []
summary_calls (Err cause) = []

abbrev pub calls_of : Run → List Call
calls_of run = file_calls run ++ summary_calls run.end

-- how calls of a sink ended: all were done, the last failed at the named file, or memory was wanting in it
pub data WriteEnd : Type 0 where
  Wrote : WriteEnd
  SinkFails : List ℕ → WriteEnd
  SinkLacks : WriteEnd

abbrev pub name_of : Call → List ℕ
name_of (Create name) = name
name_of (Append name piece) = name

-- what a call does, and what it leaves where it fails
abbrev pub Does : Call → Files → Files → Type 0
Does (Create name) old new = Created name old new
Does (Append name piece) old new = Appended name piece old new

abbrev pub Fails : Call → Files → Files → Type 0
Fails (Create name) old new = CreateFailed name old new
Fails (Append name piece) old new = AppendFailed name piece old new

-- no count fell
pub record NoneFell (old new : SinkState) : Type 0 where
  pub faults : old.faults ≤ new.faults
  pub wants : old.wants ≤ new.wants

-- One call and how it ended. `Tells` says whether the sink tells its files; what stands behind it is said only then.
unfoldable pub Performs : Type 0 → Call → SinkState → SinkState → WriteEnd → Type 0
Performs Tells call old new Wrote = NoneFell old new × (Tells → Does call old.files new.files)
Performs Tells call old new (SinkFails name) =
    NoneFell old new × (name_of call ≡ name) × Rose old.faults new.faults × (Tells → Fails call old.files new.files)
Performs Tells call old new SinkLacks = NoneFell old new × Rose old.wants new.wants × (Tells → new.files ≡ old.files)

abbrev pub IsStopped : WriteEnd → Type 0
IsStopped Wrote = ⊥
IsStopped (SinkFails name) = Unit {0}
IsStopped SinkLacks = Unit {0}

-- calls one after another, up to the first that wasn't done
unfoldable pub PerformsAll : Type 0 → List Call → SinkState → SinkState → WriteEnd → Type 0
PerformsAll Tells [] old new end = (new ≡ old) × (end ≡ Wrote)
PerformsAll Tells (call ∷ calls) old new end =
    (Performs Tells call old new end × IsStopped end)
    ⊎ ((mid : SinkState) × Performs Tells call old mid Wrote × PerformsAll Tells calls mid new end)
