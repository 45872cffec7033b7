-- A run writes what its job asks for.
use Rattle.std.specs.Prelude.{◌≡◌, List, Ok}
use Rattle.gba_command.specs.Plan.{outcome}
use Rattle.gba_command.specs.Words.{RunWords}
use Rattle.gba_command.specs.Writing.{Run}
use Rattle.gba_inputs.specs.Inputs.{ConsoleInputs}
use Rattle.gba_inputs.specs.InputsPlan.{inputs_plan}
use Rattle.gba_joblog.specs.Job.{WholeJob}
use Rattle.gba_link.specs.AgainLaw.{SaysJob}
use Rattle.gba_link.specs.RunPlan.{end_with, whole_run_plan}
use Rattle.gba_run_files.specs.AskedLaw.{KeepsAsked}
use Rattle.gba_store.specs.Files.{Files}

-- A run of JOB writes each output that the job asks for, with what its console has made in the steps of the global
-- order from the reset with these inputs until the job's cycles are over; beside these it writes its log alone.
abbrev pub KeepsWhatIsAsked : Type 0
KeepsWhatIsAsked =
    (files : Files) (words : RunWords) (job : WholeJob) (inputs : List ConsoleInputs) (run : Run)
    → outcome files (whole_run_plan words) ≡ Ok run → SaysJob files words.job job
    → outcome files (inputs_plan job.consoles) ≡ Ok inputs → KeepsAsked words.out job (end_with job inputs) run
