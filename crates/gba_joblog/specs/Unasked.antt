use Rattle.std.specs.Prelude.{None, map}
use Rattle.gba_joblog.specs.Job.{ConsoleJob, WholeJob}
use Rattle.gba_joblog.specs.Outputs.{per_kind}

-- A job that asks for nothing: its consoles run as before, and nothing is kept of what they make.
abbrev pub console_unasked : ConsoleJob → ConsoleJob
console_unasked console = record console { outs = per_kind (λ _. None) }

abbrev pub unasked : WholeJob → WholeJob
unasked job = record job { consoles = map console_unasked job.consoles }
