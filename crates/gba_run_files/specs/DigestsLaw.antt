-- What comes of the digests that a job states of its outputs.
use Rattle.std.specs.Prelude.{◌≡◌, ◌≢◌, ◌⊎◌, ◌<◌, ℕ, List, Option, Some, Result, Ok, Err, Contains, option_and_then, slice_get}
use Rattle.sha2.specs.Sha256.{sha256}
use Rattle.gba_command.specs.Cause.{Cause, NoCommand, Job, Image, Digest, Source, Frozen}
use Rattle.gba_command.specs.Writing.{Output, Run}
use Rattle.gba_joblog.specs.Clash.{output_file}
use Rattle.gba_joblog.specs.Job.{ConsoleJob, WholeJob}
use Rattle.gba_joblog.specs.Statements.{output_of}
use Rattle.gba_joblog.specs.declared.job.OutLine.{OutLine}
use Rattle.gba_joblog.specs.declared.outputs.OutKind.{OutKind}
use Rattle.gba_joblog.specs.declared.outputs.OutKind.TheVariants.{Frames, Samples, Words, State, Save}

-- an output: its console's number, and its kind
pub record Place : Type 0 where
  pub player : ℕ
  pub kind : OutKind

-- the number of a kind in the order of the language's table
abbrev pub kind_number : OutKind → ℕ
kind_number Frames = 0
kind_number Samples = 1
kind_number Words = 2
kind_number State = 3
kind_number Save = 4

-- outputs go by the numbers of their consoles, and those of one console by their kinds
abbrev pub IsBefore : Place → Place → Type 0
IsBefore one other =
    (one.player < other.player) ⊎ ((one.player ≡ other.player) × (kind_number one.kind < kind_number other.kind))

-- the digest that a job states of an output, if it is asked for and a digest is stated
abbrev pub digest_in : OutLine → Option (List ℕ)
digest_in line = line.digest

abbrev pub stated_in : OutKind → ConsoleJob → Option (List ℕ)
stated_in kind console = option_and_then digest_in (output_of console kind)

abbrev pub stated_at : WholeJob → Place → Option (List ℕ)
stated_at job place = option_and_then (stated_in place.kind) (slice_get job.consoles place.player)

-- the file of an output under OUT
abbrev pub file_at : List ℕ → Place → List ℕ
file_at out place = output_file out place.player place.kind

-- one of these files has this name, and its bytes this digest
pub record HasDigest (outputs : List Output) (name digest : List ℕ) : Type 0 where
  pub bytes : List ℕ
  pub written : Contains outputs (record { name = name; bytes = bytes })
  pub is : sha256 bytes ≡ digest

-- every digest that the job states is that of its output's bytes
abbrev pub AllAgree : List ℕ → WholeJob → Run → Type 0
AllAgree out job run =
    (place : Place) (digest : List ℕ) → stated_at job place ≡ Some digest
    → HasDigest run.outputs (file_at out place) digest

-- The first output of which the job states another digest than that of its bytes: its name, the stated digest, and the
-- digest of its bytes.
pub record IsFirstDifference (out : List ℕ) (job : WholeJob) (run : Run) (name stated got : List ℕ) : Type 0 where
  pub place : Place
  pub named : name ≡ file_at out place
  pub says : stated_at job place ≡ Some stated
  pub has : HasDigest run.outputs name got
  pub differs : got ≢ stated
  pub earlier : (other : Place) (digest : List ℕ) → IsBefore other place → stated_at job other ≡ Some digest
      → HasDigest run.outputs (file_at out other) digest

-- A run of a job under OUT ends with its summary where each digest that the job states of an output is that of its
-- bytes, and else is refused for the first one that isn't.
abbrev pub Compares : List ℕ → WholeJob → Run → Result (List ℕ) Cause → Type 0
Compares out job run (Ok summary) = AllAgree out job run
Compares out job run (Err (Digest name stated got)) = IsFirstDifference out job run name stated got
Compares out job run (Err NoCommand) = ⊥
Compares out job run (Err (Job name error)) = ⊥
Compares out job run (Err (Image name error)) = ⊥
Compares out job run (Err (Source name error)) = ⊥
Compares out job run (Err (Frozen name error)) = ⊥
