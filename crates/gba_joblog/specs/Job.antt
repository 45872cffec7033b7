use Rattle.std.specs.Prelude.{ℕ, List, Option}
use Rattle.gba_image.specs.declared.backup.Backup.{Backup}
use Rattle.link_node.specs.declared.delays.Delays.{Delays}
use Rattle.gba_joblog.specs.declared.job.KeyChange.{KeyChange}
use Rattle.gba_joblog.specs.declared.job.OutLine.{OutLine}
use Rattle.gba_joblog.specs.declared.outputs.PerKind.{PerKind}

-- a file that a job names: its name as bytes, the digest stated with it, and the number of its line
pub record NamedFile : Type 0 where
  pub name : List ℕ
  pub digest : Option (List ℕ)
  pub line : ℕ

-- what a job says of one console
pub record ConsoleJob : Type 0 where
  pub bios : NamedFile
  pub cart : Option NamedFile
  pub save : Option NamedFile
  pub keys : Option NamedFile
  pub changes : List KeyChange
  -- what its cartridge keeps its saves in
  pub backup : Backup
  -- the clock from which on the console is on
  pub off : ℕ
  pub outs : PerKind (Option OutLine)

-- a job: how many cycles its consoles run, the delays of the cable, and its consoles
pub record WholeJob : Type 0 where
  pub cycles : ℕ
  pub delays : Delays
  pub consoles : List ConsoleJob
