-- A run of the log writes the same bytes.
use Rattle.std.specs.Prelude.{◌≡◌, ℕ, List, [], ◌∷◌, ◌++◌, map, Some, None, Ok, IfOk}
use Rattle.std.specs.List.{All}
use Rattle.gba_command.specs.Plan.{outcome}
use Rattle.gba_command.specs.Words.{RunWords}
use Rattle.gba_command.specs.Writing.{Output, Run}
use Rattle.gba_inputs.specs.Law.{KeepsImages}
use Rattle.gba_joblog.specs.Clash.{clash_of, log_file}
use Rattle.gba_joblog.specs.Job.{WholeJob}
use Rattle.gba_joblog.specs.Language.{job_of}
use Rattle.gba_link.specs.RunPlan.{whole_run_plan}
use Rattle.gba_store.specs.Files.{Files}
use Rattle.gba_run_files.specs.Law.{under}

-- the file of this name says the job
pub record SaysJob (files : Files) (name : List ℕ) (job : WholeJob) : Type 0 where
  pub bytes : List ℕ
  pub there : files name ≡ Some bytes
  pub says : job_of bytes ≡ Ok job

-- the log is the last file that a run under OUT writes
pub record IsLogOf (out : List ℕ) (run : Run) (log : List ℕ) : Type 0 where
  pub others : List Output
  pub last : run.outputs ≡ others ++ record { name = log_file out; bytes = log } ∷ []

-- New files with which a run can be run again: the log of the run is the file JOB of the new command, the images that
-- the first job names are as they were, and no file under the new OUT would be an input of the log, or the log. Of the
-- first job, its key files and all other files nothing is said.
pub record HasLog (old new : Files) (first again : RunWords) (run : Run) : Type 0 where
  pub log : List ℕ
  pub is_log : IsLogOf first.out run log
  pub there : new again.job ≡ Some log
  pub images : (job : WholeJob) → SaysJob old first.job job → All (KeepsImages old new) job.consoles
  pub apart : (job : WholeJob) → job_of log ≡ Ok job → clash_of job again.job again.out ≡ None

abbrev pub bytes_of : Output → List ℕ
bytes_of output = output.bytes

-- The run again: it comes to as many files of the same bytes, in the same order, the log among them, and their names
-- begin with the new OUT where the first ones began with the first OUT; so do those of the pieces, of the same bytes,
-- that are added to them. It ends with a summary: the digests that the log states of the outputs are theirs. Where the
-- first run ended with a summary too, and not with a digest that differs, it is the same.
pub record RunsAgain (new : Files) (first again : RunWords) (run : Run) : Type 0 where
  pub rerun : Run
  pub comes : outcome new (whole_run_plan again) ≡ Ok rerun
  pub bytes : map bytes_of rerun.outputs ≡ map bytes_of run.outputs
  pub files : List Output
  pub first_names : run.outputs ≡ map (under first.out) files
  pub names : rerun.outputs ≡ map (under again.out) files
  pub pieces : List Output
  pub first_pieces : run.pieces ≡ map (under first.out) pieces
  pub again_pieces : rerun.pieces ≡ map (under again.out) pieces
  pub summary : List ℕ
  pub end : rerun.end ≡ Ok summary
  pub same : IfOk run.end (λ end. end ≡ summary)

-- The log of a run can be run again, and its run writes the same.
abbrev pub LogsRunAgain : Type 0
LogsRunAgain =
    (old new : Files) (first again : RunWords) (run : Run) → outcome old (whole_run_plan first) ≡ Ok run
    → HasLog old new first again run → RunsAgain new first again run
