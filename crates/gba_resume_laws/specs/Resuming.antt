-- A job that is frozen and resumed writes what its run writes.
use Rattle.std.specs.Prelude.{◌≡◌, ℕ, true, List, [], ◌∷◌, ◌++◌, map, None, Some, Ok, IfOk, Contains}
use Rattle.std.specs.List.{All}
use Rattle.gba_command.specs.Plan.{outcome}
use Rattle.gba_command.specs.Words.{FreezeWords, ResumeWords, RunWords}
use Rattle.gba_command.specs.Writing.{Output, Run}
use Rattle.gba_freeze_laws.specs.Parts.{parts_of}
use Rattle.gba_freeze_laws.specs.Reached.{HasSavedBytes}
use Rattle.gba_inputs.specs.Inputs.{ConsoleInputs}
use Rattle.gba_inputs.specs.InputsPlan.{inputs_plan}
use Rattle.gba_joblog.specs.Job.{WholeJob}
use Rattle.gba_link.specs.AgainLaw.{SaysJob}
use Rattle.gba_link.specs.FreezePlan.{freeze_plan}
use Rattle.gba_link.specs.ResumePlan.{resume_plan}
use Rattle.gba_link.specs.RunPlan.{clash_for, images_in, whole_run_plan}
use Rattle.gba_run_files.specs.AskedLaw.{is_asked}
use Rattle.gba_run_files.specs.DigestsLaw.{Place, file_at}
use Rattle.gba_run_files.specs.Frozen.{frozen_name}
use Rattle.gba_run_files.specs.Written.{log_line}
use Rattle.gba_session.specs.Files.{grows}
use Rattle.gba_store.specs.Files.{Files}

-- the saves that were read are of bytes
abbrev pub HaveSavedBytes : List ConsoleInputs → Type 0
HaveSavedBytes inputs = All HasSavedBytes (map images_in inputs)

-- FROZEN is the last file that a freeze wrote
pub record HasFrozen (new : Files) (freeze : FreezeWords) (resume : ResumeWords) (first : Run) : Type 0 where
  pub bytes : List ℕ
  pub others : List Output
  pub last : first.outputs ≡ others ++ record { name = frozen_name freeze.run.out; bytes = bytes } ∷ []
  pub there : new resume.frozen ≡ Some bytes

-- New files with which a frozen job can be resumed: JOB and its inputs are as they were when it was frozen, FROZEN is
-- the file that was written, and no file under the new OUT is one that is read.
pub record CanBeResumed (old new : Files) (freeze : FreezeWords) (resume : ResumeWords) (job : WholeJob)
    (first : Run) : Type 0 where
  pub same_job : new resume.run.job ≡ old freeze.run.job
  pub same_inputs : outcome new (inputs_plan job.consoles) ≡ outcome old (inputs_plan job.consoles)
  pub frozen : HasFrozen new freeze resume first
  pub apart : clash_for (Some resume.frozen) None resume.run job ≡ None

-- one of the files of a run has this name and these bytes
abbrev pub Writes : Run → List ℕ → List ℕ → Type 0
Writes run name bytes = Contains run.outputs (record { name = name; bytes = bytes })

-- The file of an output that the whole run writes is the file of the frozen run, followed by that of the resumed run; a
-- state and a save, which the frozen run doesn't write, are those of the resumed run.
pub record IsInParts (freeze : FreezeWords) (resume : ResumeWords) (words : RunWords) (first second run : Run)
    (place : Place)
    : Type 0
  where
    pub before : List ℕ
    pub after : List ℕ
    pub frozen : grows place.kind ≡ true → Writes first (file_at freeze.run.out place) before
    pub resumed : Writes second (file_at resume.run.out place) after
    pub ran : Writes run (file_at words.out place) (parts_of place.kind before after)

-- The job is resumed, all outputs that it asks for are in these parts, and the summary is that of the whole run but for
-- the line of its log.
pub record GoesOnAsRun (new : Files) (freeze : FreezeWords) (resume : ResumeWords) (words : RunWords) (job : WholeJob)
    (first run : Run) : Type 0
  where
    pub second : Run
    pub comes : outcome new (resume_plan resume) ≡ Ok second
    pub parts : (place : Place) → is_asked job place ≡ true → IsInParts freeze resume words first second run place
    pub lines : List ℕ
    pub end : second.end ≡ Ok lines
    pub run_end : IfOk run.end (λ summary. (log : List ℕ) × (summary ≡ lines ++ log_line log))

-- So it is of each job that is frozen with one command and run with another.
abbrev pub FrozenJobsGoOnAsRun : Type 0
FrozenJobsGoOnAsRun =
    (old new : Files) (freeze : FreezeWords) (resume : ResumeWords) (words : RunWords) (job : WholeJob)
    (inputs : List ConsoleInputs) (first run : Run)
    → outcome old (freeze_plan freeze) ≡ Ok first → outcome old (whole_run_plan words) ≡ Ok run
    → SaysJob old freeze.run.job job → SaysJob old words.job job
    → outcome old (inputs_plan job.consoles) ≡ Ok inputs → HaveSavedBytes inputs
    → CanBeResumed old new freeze resume job first
    → GoesOnAsRun new freeze resume words job first run
