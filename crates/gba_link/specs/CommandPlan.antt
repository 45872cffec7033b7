-- What the words after the program's name say to do.
use Rattle.std.specs.Prelude.{ℕ, List, Option, Some, None}
use Rattle.gba_command.specs.Cause.{NoCommand}
use Rattle.gba_command.specs.Plan.{Plan, Done, Refuse}
use Rattle.gba_command.specs.Words.{Command, RunJob, Assemble, ListArm, ListThumb, Generate, Trace, Freeze, Resume, command_of}
use Rattle.gba_command.specs.Writing.{Run}
use Rattle.gba_dis.specs.declared.units.Set.TheVariants.{Arm, Thumb}
use Rattle.gba_link.specs.FreezePlan.{freeze_plan}
use Rattle.gba_link.specs.GeneratedRun.{generated_run}
use Rattle.gba_link.specs.ResumePlan.{resume_plan}
use Rattle.gba_link.specs.RunPlan.{whole_run_plan}
use Rattle.gba_link.specs.TracePlan.{trace_plan}
use Rattle.gba_translate.specs.Translation.{assembly_plan, listing_plan}

-- what each command reads, and what comes of it; `gen` reads nothing
abbrev pub plan_of_command : Command → Plan Run
plan_of_command (RunJob words) = whole_run_plan words
plan_of_command (Assemble words) = assembly_plan words
plan_of_command (ListArm words) = listing_plan Arm words
plan_of_command (ListThumb words) = listing_plan Thumb words
plan_of_command (Generate words) = Done (generated_run words)
plan_of_command (Trace words) = trace_plan words
plan_of_command (Freeze words) = freeze_plan words
plan_of_command (Resume words) = resume_plan words

abbrev pub command_plan : Option Command → Plan Run
command_plan None = Refuse NoCommand
command_plan (Some command) = plan_of_command command

-- What the words after the program's name say to do: which files are read, in which order, and what comes of them.
abbrev pub plan_of : List (List ℕ) → Plan Run
plan_of words = command_plan (command_of words)
