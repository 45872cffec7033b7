use Rattle.std.specs.Prelude.{ℕ, List, [], Option, None}
use Rattle.gba_image.specs.declared.backup.Backup.{Backup}
use Rattle.gba_joblog.specs.Backups.{backup_or_sram}
use Rattle.gba_joblog.specs.Job.{ConsoleJob, NamedFile}
use Rattle.gba_joblog.specs.Outputs.{per_kind}
use Rattle.gba_joblog.specs.declared.cable.Link.{Link}
use Rattle.gba_joblog.specs.declared.draft.JobVersion.{JobVersion}
use Rattle.gba_joblog.specs.declared.draft.JobVersion.TheVariants.{One}
use Rattle.gba_joblog.specs.declared.draft.Place.{Place}
use Rattle.gba_joblog.specs.declared.draft.Place.TheVariants.{Start}
use Rattle.gba_joblog.specs.declared.job.KeyChange.{KeyChange}
use Rattle.gba_joblog.specs.declared.job.OutLine.{OutLine}
use Rattle.gba_joblog.specs.declared.outputs.PerKind.{PerKind}

-- what the lines of a console have said as far as they are read; its BIOS image may not be named yet
pub record DraftConsole : Type 0 where
  pub bios : Option NamedFile
  pub cart : Option NamedFile
  pub save : Option NamedFile
  pub keys : Option NamedFile
  pub changes : List KeyChange
  pub backup : Option Backup
  -- 0 where it isn't said
  pub off : ℕ
  pub outs : PerKind (Option OutLine)

-- What the lines before have said: the version of the language, where in the job the next line stands, the cycles, the
-- delay of all pairs, the links in their order, the consoles that are whole, and what is said of the console whose
-- lines stand here.
pub record Draft : Type 0 where
  pub version : JobVersion
  pub place : Place
  pub cycles : Option ℕ
  pub delay : Option ℕ
  pub links : List Link
  pub consoles : List ConsoleJob
  pub last : DraftConsole

-- a console of which nothing is said
abbrev pub silent_console : DraftConsole
silent_console = record {
  bios = None;
  cart = None;
  save = None;
  keys = None;
  changes = [];
  backup = None;
  off = 0;
  outs = per_kind (λ _. None);
}

-- a console of which everything is said, with this BIOS image
abbrev pub with_image : DraftConsole → NamedFile → ConsoleJob
with_image console bios = record {
  bios = bios;
  cart = console.cart;
  save = console.save;
  keys = console.keys;
  changes = console.changes;
  backup = backup_or_sram console.backup;
  off = console.off;
  outs = console.outs;
}

-- before the first line
abbrev pub nothing_said : Draft
nothing_said = record {
  version = One;
  place = Start;
  cycles = None;
  delay = None;
  links = [];
  consoles = [];
  last = silent_console;
}
