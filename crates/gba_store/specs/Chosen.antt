use Rattle.std.specs.List.{list_any}
use Rattle.std.specs.Prelude.{◌≡◌, ℕ, ◌==◌, Bool, List, Option, Some, None, Result, length, take, ◌/◌, if◌then◌else◌}
use Rattle.gba_store.specs.Counts.{absences_after, read_faults_after, write_faults_after, wants_after}
use Rattle.gba_store.specs.Files.{Files, one_more}
use Rattle.gba_store.specs.Given.{Gives}
use Rattle.gba_store.specs.Memory.{Memory, content_in, files_of}
use Rattle.gba_store.specs.declared.memory.MemorySink.{MemorySink}
use Rattle.gba_store.specs.declared.outside.ReadError.{ReadError}
use Rattle.gba_store.specs.declared.outside.ReadError.TheVariants.{Absent, Failed, NoMemory}
use Rattle.gba_store.specs.declared.outside.WriteError.{WriteError}

-- whether the next call after so many is among those that are to fail, which are named by their numbers
abbrev pub is_chosen : List ℕ → ℕ → Bool
is_chosen failing made = list_any (λ number. number == one_more made) failing

-- a read finds its file, or is refused because there is none
abbrev pub refusal_where : Option (List ℕ) → Option ReadError
refusal_where None = Some Absent
refusal_where (Some all) = None

-- why the next read of a name is to be refused, if it is
abbrev pub refusal_due : Memory → List ℕ → Option ReadError
refusal_due store name =
    if is_chosen store.failing store.reads then Some Failed else refusal_where (content_in store.files name)

-- a refusal but for want of memory, which may come in any read that isn't to be refused
abbrev pub but_memory : Option ReadError → Option ReadError
but_memory None = None
but_memory (Some Absent) = Some Absent
but_memory (Some Failed) = Some Failed
but_memory (Some NoMemory) = None

-- a read of that name, refused so or not at all, took the store from the one state to the other
pub record IsRead (name : List ℕ) (refusal : Option ReadError) (old new : Memory) : Type 0 where
  pub due : but_memory refusal ≡ refusal_due old name
  pub files : new.files ≡ old.files
  pub failing : new.failing ≡ old.failing
  pub reads : new.reads ≡ one_more old.reads
  pub faults : new.faults ≡ read_faults_after refusal old.faults
  pub absences : new.absences ≡ absences_after refusal old.absences

-- one read of a store in memory
abbrev pub GivesInMemory : List ℕ → ℕ → Result (List ℕ) ReadError → Memory → Memory → Type 0
GivesInMemory =
    Gives (Unit {0}) (λ store. content_in store.files) (λ name _. IsRead name) (λ store. store.absences)
    (λ store. store.faults)

-- the files in a sink in memory
abbrev pub files_in : MemorySink → Files
files_in sink = files_of sink.files

-- a sink with no file, of which these creates and appends are to fail
pub record IsNewSink (creates appends : List ℕ) (sink : MemorySink) : Type 0 where
  pub empty : files_in sink ≡ (λ _. None)
  pub creates_to_fail : sink.failing_creates.items ≡ creates
  pub appends_to_fail : sink.failing_appends.items ≡ appends
  pub no_create : sink.creates ≡ 0
  pub no_append : sink.appends ≡ 0
  pub no_fault : sink.faults ≡ 0
  pub no_want : sink.wants ≡ 0

-- after a call that was refused so or not at all: how many calls of each kind were made, which are to fail, and how
-- many were refused
pub record Counts (refusal : Option WriteError) (old new : MemorySink) (creates appends : ℕ) : Type 0 where
  pub creates_to_fail : new.failing_creates.items ≡ old.failing_creates.items
  pub appends_to_fail : new.failing_appends.items ≡ old.failing_appends.items
  pub creates_made : new.creates ≡ creates
  pub appends_made : new.appends ≡ appends
  pub faults : new.faults ≡ write_faults_after refusal old.faults
  pub wants : new.wants ≡ wants_after refusal old.wants

-- whether the next create, and the next append, is to fail
abbrev pub create_is_chosen : MemorySink → Bool
create_is_chosen sink = is_chosen sink.failing_creates.items sink.creates

abbrev pub append_is_chosen : MemorySink → Bool
append_is_chosen sink = is_chosen sink.failing_appends.items sink.appends

-- what a failing append adds: half of the piece, rounded down
abbrev pub half : List ℕ → List ℕ
half piece = take (length piece / 2) piece
