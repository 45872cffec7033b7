-- What `run` reads, and what comes of it.
use Rattle.std.specs.Prelude.{ℕ, List, length, map, Option, Some, None, Result, Ok, Err}
use Rattle.gba_command.specs.Cause.{Cause, Job}
use Rattle.gba_command.specs.Plan.{Plan, Done, bind, file, judgement}
use Rattle.gba_command.specs.Words.{RunWords}
use Rattle.gba_command.specs.Writing.{Run}
use Rattle.gba_console.specs.Machine.{Machine}
use Rattle.gba_image.specs.declared.images.ConsoleImages.{ConsoleImages}
use Rattle.gba_inputs.specs.Filled.{filled}
use Rattle.gba_inputs.specs.Inputs.{ConsoleInputs}
use Rattle.gba_inputs.specs.InputsPlan.{inputs_plan}
use Rattle.gba_joblog.specs.Kinds.{JobError}
use Rattle.gba_text.specs.Languages.{error_at}
use Rattle.gba_joblog.specs.Clash.{clash_with, least}
use Rattle.gba_joblog.specs.Job.{WholeJob}
use Rattle.gba_joblog.specs.Language.{job_of, longest_job}
use Rattle.gba_joblog.specs.declared.kinds.JobKind.TheVariants.{Long, Clash}
use Rattle.gba_session.specs.Session.{prepared}
use Rattle.gba_session.specs.Start.{end_of}
use Rattle.gba_run_files.specs.Names.{run_names}
use Rattle.gba_run_files.specs.Written.{run_of}
use Rattle.link_order.specs.Cut.{Cut}

-- JOB is refused at a line
abbrev pub job_refusal : RunWords → JobError → Cause
job_refusal words error = Job words.job error

-- an output file, or the one file more that a command writes, may not be JOB or one of the job's inputs
abbrev pub unless_clash : RunWords → WholeJob → Option ℕ → Result WholeJob Cause
unless_clash words job None = Ok job
unless_clash words job (Some line) = Err (job_refusal words (error_at line Clash))

-- nor may it be FROZEN, where a command reads one: that is line 0 as JOB is
abbrev pub clash_for : Option (List ℕ) → Option (List ℕ) → RunWords → WholeJob → Option ℕ
clash_for None more words job = clash_with job words.job words.out more
clash_for (Some frozen) more words job =
    least (clash_with job words.job words.out more) (clash_with job frozen words.out more)

abbrev pub without_clash_for : Option (List ℕ) → Option (List ℕ) → RunWords → Result WholeJob JobError
    → Result WholeJob Cause
without_clash_for frozen more words (Ok job) = unless_clash words job (clash_for frozen more words job)
without_clash_for frozen more words (Err error) = Err (job_refusal words error)

-- the job that the bytes of JOB say, or why it is refused
abbrev pub job_or_refusal_for : Option (List ℕ) → Option (List ℕ) → RunWords → List ℕ → Result WholeJob Cause
job_or_refusal_for frozen more words bytes = without_clash_for frozen more words (job_of bytes)

-- What follows the bytes of JOB.
abbrev pub after_job_for : Option (List ℕ) → Option (List ℕ) → RunWords → List ℕ → Plan WholeJob
after_job_for frozen more words bytes = judgement (job_or_refusal_for frozen more words bytes)

abbrev pub job_plan_for : Option (List ℕ) → Option (List ℕ) → RunWords → Plan WholeJob
job_plan_for frozen more words =
    bind (file words.job longest_job (job_refusal words (error_at 0 Long))) (after_job_for frozen more words)

-- the same where no FROZEN is read
abbrev pub without_clash_with : Option (List ℕ) → RunWords → Result WholeJob JobError → Result WholeJob Cause
without_clash_with more words = without_clash_for None more words

abbrev pub job_or_refusal_with : Option (List ℕ) → RunWords → List ℕ → Result WholeJob Cause
job_or_refusal_with more words bytes = job_or_refusal_for None more words bytes

abbrev pub after_job_with : Option (List ℕ) → RunWords → List ℕ → Plan WholeJob
after_job_with more words bytes = after_job_for None more words bytes

abbrev pub job_plan_with : Option (List ℕ) → RunWords → Plan WholeJob
job_plan_with more words = job_plan_for None more words

-- the same of `run`, which writes no file more
abbrev pub without_clash : RunWords → Result WholeJob JobError → Result WholeJob Cause
without_clash words = without_clash_with None words

abbrev pub job_or_refusal : RunWords → List ℕ → Result WholeJob Cause
job_or_refusal words bytes = job_or_refusal_with None words bytes

abbrev pub after_job : RunWords → List ℕ → Plan WholeJob
after_job words bytes = after_job_with None words bytes

abbrev pub job_plan : RunWords → Plan WholeJob
job_plan words = job_plan_with None words

-- The run of a job with its inputs: the consoles go from their reset, in the global order, until the clock of each is
-- at least the job's cycles. The files that they are asked for are written under OUT, then the log, and the summary has
-- a line for each console.
abbrev pub images_in : ConsoleInputs → ConsoleImages
images_in inputs = inputs.images

abbrev pub end_with : WholeJob → List ConsoleInputs → Cut Machine
end_with job inputs = end_of (filled job inputs) (map images_in inputs)

-- what the run of a job with these images writes under OUT
abbrev pub run_under : List ℕ → WholeJob → List ConsoleImages → Run
run_under out job images = run_of (run_names out (length job.consoles)) job (prepared job images)

abbrev pub result_of_run : List ℕ → WholeJob → List ConsoleInputs → Run
result_of_run out job inputs = run_under out (filled job inputs) (map images_in inputs)

-- the inputs of a job, and what the job with them comes to
abbrev pub after_inputs : RunWords → WholeJob → List ConsoleInputs → Plan Run
after_inputs words job inputs = Done (result_of_run words.out job inputs)

abbrev pub run_plan : RunWords → WholeJob → Plan Run
run_plan words job = bind (inputs_plan job.consoles) (after_inputs words job)

-- `run JOB OUT`: JOB is read, then the inputs that it names, and it is run.
abbrev pub whole_run_plan : RunWords → Plan Run
whole_run_plan words = bind (job_plan words) (run_plan words)
