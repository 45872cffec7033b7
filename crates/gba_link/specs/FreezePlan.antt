-- What `freeze` reads, and what comes of it.
use Rattle.std.specs.Prelude.{ℕ, nat_le, List, length, map, Some, Result, Ok, Err, if◌then◌else◌}
use Rattle.gba_command.specs.Cause.{Cause}
use Rattle.gba_command.specs.Plan.{Plan, Done, bind, judgement}
use Rattle.gba_command.specs.Words.{FreezeWords}
use Rattle.gba_command.specs.Writing.{Run}
use Rattle.gba_image.specs.declared.images.ConsoleImages.{ConsoleImages}
use Rattle.gba_inputs.specs.Filled.{filled}
use Rattle.gba_inputs.specs.Inputs.{ConsoleInputs}
use Rattle.gba_inputs.specs.InputsPlan.{inputs_plan}
use Rattle.gba_joblog.specs.Job.{WholeJob}
use Rattle.gba_joblog.specs.declared.kinds.JobKind.TheVariants.{Number}
use Rattle.gba_link.specs.RunPlan.{images_in, job_plan_with, job_refusal}
use Rattle.gba_run_files.specs.Frozen.{freeze_names, frozen_name, frozen_run, job_digest, job_unstated, job_until}
use Rattle.gba_session.specs.Session.{prepared}
use Rattle.gba_text.specs.Languages.{error_at}

-- CLOCK isn't above the job's cycles
abbrev pub clock_or_refusal : FreezeWords → WholeJob → Result WholeJob Cause
clock_or_refusal words job =
    if nat_le words.clock job.cycles then Ok job else Err (job_refusal words.run (error_at 0 Number))

-- The run of a job with its inputs up to CLOCK: the consoles go from their reset, in the global order, until the clock
-- of each is at least CLOCK. What they made of frames, samples and words is written as far as the job asks for it, and
-- then their frozen file; the summary has a line for each console. No digest is compared of what is only a part.
abbrev pub frozen_under : List ℕ → WholeJob → List ℕ → List ConsoleImages → Run
frozen_under out job digest images =
    frozen_run (freeze_names out (length job.consoles)) job digest (prepared job images)

abbrev pub result_of_freeze : FreezeWords → WholeJob → List ConsoleInputs → Run
result_of_freeze words job inputs =
    frozen_under words.run.out (job_until words.clock (job_unstated (filled job inputs)))
    (job_digest (filled job inputs)) (map images_in inputs)

abbrev pub after_inputs_frozen : FreezeWords → WholeJob → List ConsoleInputs → Plan Run
after_inputs_frozen words job inputs = Done (result_of_freeze words job inputs)

abbrev pub after_clock : FreezeWords → WholeJob → Plan Run
after_clock words job = bind (inputs_plan job.consoles) (after_inputs_frozen words job)

abbrev pub frozen_plan : FreezeWords → WholeJob → Plan Run
frozen_plan words job = bind (judgement (clock_or_refusal words job)) (after_clock words)

-- `freeze JOB CLOCK OUT`: JOB is read, then the inputs that it names, and it is run to CLOCK.
abbrev pub freeze_plan : FreezeWords → Plan Run
freeze_plan words = bind (job_plan_with (Some (frozen_name words.run.out)) words.run) (frozen_plan words)
