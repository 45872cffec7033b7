-- No file of a run is one that it read.
use Rattle.std.specs.Prelude.{◌≡◌, ℕ, false, List, Ok, IfSome}
use Rattle.std.specs.List.{All}
use Rattle.gba_command.specs.LeftFiles.{is_among}
use Rattle.gba_command.specs.Plan.{outcome}
use Rattle.gba_command.specs.Words.{RunWords}
use Rattle.gba_command.specs.Writing.{Run}
use Rattle.gba_joblog.specs.Job.{ConsoleJob, NamedFile, WholeJob}
use Rattle.gba_link.specs.AgainLaw.{SaysJob}
use Rattle.gba_link.specs.RunPlan.{whole_run_plan}
use Rattle.gba_store.specs.Files.{Files}

-- the file of this name is none of a run's
abbrev pub Spares : Run → List ℕ → Type 0
Spares run name = is_among name run.outputs ≡ false

abbrev pub SparesFile : Run → NamedFile → Type 0
SparesFile run file = Spares run file.name

-- every input that a job names for a console
pub record SparesConsole (run : Run) (console : ConsoleJob) : Type 0 where
  pub bios : SparesFile run console.bios
  pub cart : IfSome console.cart (SparesFile run)
  pub save : IfSome console.save (SparesFile run)
  pub keys : IfSome console.keys (SparesFile run)

-- A run makes empty and writes no file that it read: neither the job nor an input of it.
abbrev pub SparesItsInputs : Type 0
SparesItsInputs =
    (files : Files) (words : RunWords) (job : WholeJob) (run : Run) → outcome files (whole_run_plan words) ≡ Ok run
    → SaysJob files words.job job → Spares run words.job × All (SparesConsole run) job.consoles
