-- What holds of every job, and of every key file's changes, that is read.
use Rattle.std.specs.Prelude.{◌≡◌, ◌≤◌, ◌<◌, ◌^◌, ℕ, true, false, List, [], length, Option, IfSome, IsSome, Ok}
use Rattle.std.specs.List.{All}
use Rattle.std.specs.List.Sorted.{IsNonDecreasingBy}
use Rattle.link_node.specs.Delays.{hop_of, AreDelays}
use Rattle.link_node.specs.declared.delays.Delays.{Delays}
use Rattle.gba_joblog.specs.Cable.{is_joined, players_for, table_of, usual_delay}
use Rattle.gba_joblog.specs.Changes.{most_changes}
use Rattle.gba_joblog.specs.Digests.{IsDigest}
use Rattle.gba_joblog.specs.Draft.{DraftConsole}
use Rattle.gba_joblog.specs.Job.{ConsoleJob, NamedFile, WholeJob}
use Rattle.gba_joblog.specs.Language.{job_of}
use Rattle.gba_joblog.specs.KeyFile.{keys_of}
use Rattle.gba_joblog.specs.Names.{is_name}
use Rattle.gba_joblog.specs.Outputs.{EachKind}
use Rattle.gba_joblog.specs.declared.cable.Pair.{Pair}
use Rattle.gba_joblog.specs.declared.job.KeyChange.{KeyChange}
use Rattle.gba_joblog.specs.declared.job.OutLine.{OutLine}
use Rattle.gba_joblog.specs.declared.outputs.PerKind.{PerKind}

-- a file with a name of 1 to 200 bytes; what is stated with it may be a digest
pub record IsFile (file : NamedFile) : Type 0 where
  pub named : is_name file.name ≡ true
  pub stated : IfSome file.digest IsDigest

-- what is stated for an output may be a digest
abbrev pub IsAsked : OutLine → Type 0
IsAsked out = IfSome out.digest IsDigest

-- an output is asked for or not
abbrev pub IsOutput : Option OutLine → Type 0
IsOutput out = IfSome out IsAsked

-- a change at a clock below 2^38 of keys below 400h
pub record IsChange (change : KeyChange) : Type 0 where
  pub early : change.clock < 2 ^ 38
  pub keys : change.keys < 1024

-- at most 1,000,000 changes, whose clocks don't fall
pub record AreChanges (changes : List KeyChange) : Type 0 where
  pub each : All IsChange changes
  pub rising : IsNonDecreasingBy (λ change. change.clock) changes
  pub few : length changes ≤ most_changes

-- what the lines of a console say beside that of its BIOS image
pub record AreConsoleLines (cartridge backup key_file : Option NamedFile) (key_changes : List KeyChange)
    (asked : PerKind (Option OutLine)) : Type 0 where
  pub cart : IfSome cartridge IsFile
  pub save : IfSome backup IsFile
  pub keys : IfSome key_file IsFile
  pub changes : AreChanges key_changes
  pub apart : IsSome key_file → key_changes ≡ []
  pub outs : EachKind IsOutput asked

-- a console as far as its lines are read
pub record IsPartOfConsole (console : DraftConsole) : Type 0 where
  pub bios : IfSome console.bios IsFile
  pub off : console.off < 2 ^ 38
  pub lines : AreConsoleLines console.cart console.save console.keys console.changes console.outs

-- a whole console has its BIOS image
pub record IsConsole (console : ConsoleJob) : Type 0 where
  pub bios : IsFile console.bios
  pub off : console.off < 2 ^ 38
  pub lines : AreConsoleLines console.cart console.save console.keys console.changes console.outs

-- The delays of a cable of so many players. Where a line doesn't count they are the usual one.
pub record AreJobDelays (players : ℕ) (delays : Delays) : Type 0 where
  -- four rows of four
  pub table : table_of (λ pair. hop_of delays pair.sender pair.receiver) ≡ delays
  pub within : AreDelays delays
  pub apart : (pair : Pair) → pair.sender < 4 → pair.receiver < 4 → is_joined players pair ≡ false
      → hop_of delays pair.sender pair.receiver ≡ usual_delay

-- a job of one to four consoles, in the ranges of the language
pub record IsJob (job : WholeJob) : Type 0 where
  pub some_cycles : 1 ≤ job.cycles
  pub few_cycles : job.cycles ≤ 2 ^ 38
  pub delays : AreJobDelays (players_for (length job.consoles)) job.delays
  pub some_consoles : 1 ≤ length job.consoles
  pub few_consoles : length job.consoles ≤ 4
  pub each : All IsConsole job.consoles

-- each job that a file says is sound
abbrev pub IsSoundLanguage : Type 0
IsSoundLanguage = (bytes : List ℕ) (job : WholeJob) → job_of bytes ≡ Ok job → IsJob job

-- the changes that a key file says are sound
abbrev pub KeysAreSound : Type 0
KeysAreSound = (bytes : List ℕ) (changes : List KeyChange) → keys_of bytes ≡ Ok changes → AreChanges changes
