use Rattle.std.specs.Prelude.{map, option_map, string_bytes}
use Rattle.gba_joblog.specs.Draft.{Draft, DraftConsole}
use Rattle.gba_joblog.specs.Job.{ConsoleJob, NamedFile, WholeJob}
use Rattle.gba_joblog.specs.Statements.{Statement, Version, Cycles, Delay, Link, Console, File, Key, KeepsIn, Off, Out, End}
use Rattle.gba_joblog.specs.declared.draft.DraftJob.{DraftJob}
use Rattle.gba_joblog.specs.declared.console.DraftConsole.{DraftConsole as ConsoleText}
use Rattle.gba_joblog.specs.declared.job.FileLine.{FileLine}
use Rattle.gba_joblog.specs.declared.job.Job.{Job}
use Rattle.gba_joblog.specs.declared.job.JobConsole.{JobConsole}
use Rattle.gba_joblog.specs.declared.statement.Line.{Line}
use Rattle.gba_joblog.specs.declared.statement.Line.TheVariants as line

-- what the program's types stand for
abbrev pub file_value : FileLine → NamedFile
file_value file = record { name = string_bytes file.name; digest = file.digest; line = file.line }

abbrev pub console_value : JobConsole → ConsoleJob
console_value console = record {
  bios = file_value console.bios;
  cart = option_map file_value console.cart;
  save = option_map file_value console.save;
  keys = option_map file_value console.keys;
  changes = console.changes.items;
  backup = console.backup;
  off = console.off;
  outs = console.outs;
}

abbrev pub draft_console_value : ConsoleText → DraftConsole
draft_console_value console = record {
  bios = option_map file_value console.bios;
  cart = option_map file_value console.cart;
  save = option_map file_value console.save;
  keys = option_map file_value console.keys;
  changes = console.changes.items;
  backup = console.backup;
  off = console.off;
  outs = console.outs;
}

abbrev pub job_value : Job → WholeJob
job_value job = record { cycles = job.cycles; delays = job.delays; consoles = map console_value job.consoles.items }

abbrev pub draft_value : DraftJob → Draft
draft_value draft = record {
  version = draft.version;
  place = draft.place;
  cycles = draft.cycles;
  delay = draft.delay;
  links = draft.links.items;
  consoles = map console_value draft.consoles.items;
  last = draft_console_value draft.last;
}

abbrev pub statement_value : Line → Statement
statement_value (line.Version version) = Version version
statement_value (line.Cycles cycles) = Cycles cycles
statement_value (line.Delay delay) = Delay delay
statement_value (line.Link link) = Link link
statement_value (line.Console player) = Console player
statement_value (line.File file name digest) = File file name.now digest
statement_value (line.Key change) = Key change
statement_value (line.Backup backup) = KeepsIn backup
statement_value (line.Off off) = Off off
statement_value (line.Out out digest) = Out out digest
statement_value line.End = End
