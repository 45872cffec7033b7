-- What `gen` makes can be run.
use Rattle.std.specs.Prelude.{◌≡◌, ℕ, List, ◌++◌, map, Some, Ok}
use Rattle.std.specs.List.{All}
use Rattle.gba_command.specs.Plan.{outcome}
use Rattle.gba_command.specs.Words.{AreGenerateWords, GenerateWords, RunWords}
use Rattle.gba_command.specs.Writing.{Output, Run}
use Rattle.gba_generator.specs.Job.{job_file}
use Rattle.gba_link.specs.GeneratedRun.{generated_run, made_files}
use Rattle.gba_link.specs.RunPlan.{whole_run_plan}
use Rattle.gba_run_files.specs.Law.{under}
use Rattle.gba_store.specs.Files.{Files}

-- files that hold what `gen` makes for its run: the four images and the job
abbrev pub HasMade : Files → GenerateWords → Type 0
HasMade files words = All (λ output. files output.name ≡ Some output.bytes) (made_files words)

-- `run` of the job that `gen` makes, under this OUT
abbrev pub made_run : GenerateWords → List ℕ → RunWords
made_run words out = record { job = job_file words.out; out = out }

-- The run of that job writes what `gen` itself writes behind the files of the job: as many files of the same bytes, in
-- the same order, and the same pieces. Only that their names begin with this OUT. It ends with the same summary.
pub record RunsAsMade (files : Files) (words : GenerateWords) (out : List ℕ) : Type 0 where
  pub rerun : Run
  pub comes : outcome files (whole_run_plan (made_run words out)) ≡ Ok rerun
  pub outputs : List Output
  pub made_outputs : (generated_run words).outputs ≡ made_files words ++ map (under words.out) outputs
  pub outputs_again : rerun.outputs ≡ map (under out) outputs
  pub pieces : List Output
  pub made_pieces : (generated_run words).pieces ≡ made_files words ++ map (under words.out) pieces
  pub pieces_again : rerun.pieces ≡ map (under out) pieces
  pub summary : List ℕ
  pub made_end : (generated_run words).end ≡ Ok summary
  pub end_again : rerun.end ≡ Ok summary

-- What `gen` makes can be run under every OUT, its own too: no file of the run is one that it reads.
abbrev pub GeneratedRunsAgain : Type 0
GeneratedRunsAgain =
    (files : Files) (words : GenerateWords) (out : List ℕ) → AreGenerateWords words → HasMade files words
    → RunsAsMade files words out
