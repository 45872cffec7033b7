-- What a run comes to whose job states digests of its outputs.
use Rattle.std.specs.Prelude.{◌≡◌, Ok}
use Rattle.gba_command.specs.Plan.{outcome}
use Rattle.gba_command.specs.Words.{RunWords}
use Rattle.gba_command.specs.Writing.{Run}
use Rattle.gba_joblog.specs.Job.{WholeJob}
use Rattle.gba_link.specs.AgainLaw.{SaysJob}
use Rattle.gba_link.specs.RunPlan.{whole_run_plan}
use Rattle.gba_run_files.specs.DigestsLaw.{Compares}
use Rattle.gba_store.specs.Files.{Files}

-- Every digest that a job states of an output is compared with that of the bytes that its run writes.
abbrev pub ComparesDigests : Type 0
ComparesDigests =
    (files : Files) (words : RunWords) (job : WholeJob) (run : Run) → outcome files (whole_run_plan words) ≡ Ok run
    → SaysJob files words.job job → Compares words.out job run run.end
