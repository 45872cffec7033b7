-- What `resume` reads, and what comes of it.
use Rattle.std.specs.Prelude.{ℕ, List, length, map, None, Some, Result, Ok, Err}
use Rattle.gba_command.specs.Cause.{Cause, Frozen}
use Rattle.gba_command.specs.Plan.{Plan, bind, file, judgement}
use Rattle.gba_command.specs.Words.{ResumeWords}
use Rattle.gba_command.specs.Writing.{Run}
use Rattle.gba_console.specs.Machine.{Machine, without_limit}
use Rattle.gba_frozen.specs.Reading.{longest_file}
use Rattle.gba_frozen.specs.declared.kinds.ThawKind.{ThawKind}
use Rattle.gba_frozen.specs.declared.kinds.ThawKind.TheVariants.{Spelling}
use Rattle.gba_inputs.specs.Filled.{filled}
use Rattle.gba_inputs.specs.Inputs.{ConsoleInputs}
use Rattle.gba_inputs.specs.InputsPlan.{inputs_plan}
use Rattle.gba_joblog.specs.Job.{WholeJob}
use Rattle.gba_link.specs.RunPlan.{images_in, job_plan_for}
use Rattle.gba_run_files.specs.Frozen.{job_digest, job_unstated}
use Rattle.gba_run_files.specs.Names.{names_from}
use Rattle.gba_run_files.specs.Resumed.{resumed_run}
use Rattle.gba_session.specs.Session.{resumed}
use Rattle.gba_session.specs.Start.{start_of}
use Rattle.gba_text.specs.Languages.{error_at}
use Rattle.gba_text.specs.declared.kinds.LineError.{LineError}
use Rattle.gba_thaw.specs.Cut.{thaw_of}
use Rattle.link_order.specs.Cut.{Cut, plain_cut}

-- FROZEN is refused at a line
abbrev pub frozen_refusal : ResumeWords → LineError ThawKind → Cause
frozen_refusal words error = Frozen words.frozen error

-- The run of a job's consoles from where they were frozen: in the global order, until the clock of each is at least the
-- job's cycles. What they make of frames, samples and words from there on is written as far as the job asks for it, and
-- then state and save; the summary has a line for each console.
abbrev pub resumed_under : List ℕ → WholeJob → Cut Machine → Run
resumed_under out job cut =
    resumed_run (names_from out 0 (length job.consoles)) job (resumed job (plain_cut without_limit cut))

abbrev pub thawed_run : ResumeWords → WholeJob → Result (Cut Machine) (LineError ThawKind) → Result Run Cause
thawed_run words job (Ok cut) = Ok (resumed_under words.run.out job cut)
thawed_run words job (Err error) = Err (frozen_refusal words error)

-- the consoles of the job with what was read for it, as the bytes of FROZEN say them
abbrev pub thawed_cut : WholeJob → List ConsoleInputs → List ℕ → Result (Cut Machine) (LineError ThawKind)
thawed_cut job inputs bytes =
    thaw_of (job_digest (filled job inputs)) job.cycles
    (start_of (job_unstated (filled job inputs)) (map images_in inputs)) bytes

abbrev pub run_or_refusal : ResumeWords → WholeJob → List ConsoleInputs → List ℕ → Result Run Cause
run_or_refusal words job inputs bytes =
    thawed_run words (job_unstated (filled job inputs)) (thawed_cut job inputs bytes)

abbrev pub after_frozen : ResumeWords → WholeJob → List ConsoleInputs → List ℕ → Plan Run
after_frozen words job inputs bytes = judgement (run_or_refusal words job inputs bytes)

abbrev pub after_inputs_resumed : ResumeWords → WholeJob → List ConsoleInputs → Plan Run
after_inputs_resumed words job inputs =
    bind (file words.frozen longest_file (frozen_refusal words (error_at 0 Spelling))) (after_frozen words job inputs)

abbrev pub resumed_plan : ResumeWords → WholeJob → Plan Run
resumed_plan words job = bind (inputs_plan job.consoles) (after_inputs_resumed words job)

-- `resume JOB FROZEN OUT`: JOB is read, then the inputs that it names, then FROZEN, and the job is run on from there.
abbrev pub resume_plan : ResumeWords → Plan Run
resume_plan words = bind (job_plan_for (Some words.frozen) None words.run) (resumed_plan words)
