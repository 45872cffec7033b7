-- A log is read as the job that it says.
use Rattle.std.specs.Prelude.{◌≡◌, None, Ok, map, option_map}
use Rattle.gba_joblog.specs.Job.{ConsoleJob, NamedFile, WholeJob}
use Rattle.gba_joblog.specs.Language.{job_of}
use Rattle.gba_joblog.specs.Log.{log_text}
use Rattle.gba_joblog.specs.Soundness.{IsJob}

-- a file without the number of its line
abbrev pub unlined_file : NamedFile → NamedFile
unlined_file file = record file { line = 0 }

abbrev pub unlined_console : ConsoleJob → ConsoleJob
unlined_console console = record {
  bios = unlined_file console.bios;
  cart = option_map unlined_file console.cart;
  save = option_map unlined_file console.save;
  keys = option_map unlined_file console.keys;
  changes = console.changes;
  backup = console.backup;
  off = console.off;
  outs = console.outs;
}

-- a job but for the numbers of its lines
abbrev pub unlined : WholeJob → WholeJob
unlined job = record job { consoles = map unlined_console job.consoles }

abbrev pub without_key_file : ConsoleJob → ConsoleJob
without_key_file console = record console { keys = None }

-- a job whose consoles name no key files
abbrev pub without_key_files : WholeJob → WholeJob
without_key_files job = record job { consoles = map without_key_file job.consoles }

-- The log of a job is read as the same job, but for the numbers of its lines and for its key files, which a log doesn't
-- name.
pub record IsReadAgain (job : WholeJob) : Type 0 where
  pub again : WholeJob
  pub read : job_of (log_text job) ≡ Ok again
  pub same : unlined again ≡ unlined (without_key_files job)

abbrev pub JobsAreReadAgain : Type 0
JobsAreReadAgain = (job : WholeJob) → IsJob job → IsReadAgain job
