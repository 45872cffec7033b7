-- What `trace` reads, and what comes of it.
use Rattle.std.specs.Prelude.{ℕ, List, [], ◌∷◌, ◌++◌, map, codes, Some, Ok}
use Rattle.gba_command.specs.Plan.{Plan, Done, bind}
use Rattle.gba_command.specs.Words.{TraceWords}
use Rattle.gba_command.specs.Writing.{Run, at_once}
use Rattle.gba_console.specs.Machine.{Machine}
use Rattle.gba_inputs.specs.Filled.{filled}
use Rattle.gba_inputs.specs.Inputs.{ConsoleInputs}
use Rattle.gba_inputs.specs.InputsPlan.{inputs_plan}
use Rattle.gba_joblog.specs.Job.{WholeJob}
use Rattle.gba_joblog.specs.Unasked.{unasked}
use Rattle.gba_session.specs.Start.{start_of}
use Rattle.gba_trace.specs.Trace.{trace_count, trace_text}
use Rattle.gba_translate.specs.Translation.{count_line}
use Rattle.gba_link.specs.RunPlan.{images_in, job_plan_with}
use Rattle.link_order.specs.Cut.{Cut}

-- the name of the trace under OUT
abbrev pub trace_file : List ℕ → List ℕ
trace_file out = out ++ codes ".trace"

-- The trace of a job with its inputs: the consoles go from their reset, in the global order, and of COUNT steps from
-- step FIRST on, counted from 0, or of all from there that begin below the job's cycles, a line each is written. The
-- summary is a word and the number of lines. Nothing is kept of what the consoles make, whatever the job asks for.
abbrev pub start_with : WholeJob → List ConsoleInputs → Cut Machine
start_with job inputs = start_of (unasked (filled job inputs)) (map images_in inputs)

abbrev pub traced : List ℕ → List ℕ → ℕ → Run
traced out text lines =
    at_once (record { name = trace_file out; bytes = text } ∷ []) (Ok (count_line (codes "trace") lines))

abbrev pub result_of_trace : TraceWords → WholeJob → List ConsoleInputs → Run
result_of_trace words job inputs =
    traced words.run.out (trace_text words.first words.count job.cycles (start_with job inputs))
    (trace_count words.first words.count job.cycles (start_with job inputs))

abbrev pub after_inputs_traced : TraceWords → WholeJob → List ConsoleInputs → Plan Run
after_inputs_traced words job inputs = Done (result_of_trace words job inputs)

abbrev pub traced_plan : TraceWords → WholeJob → Plan Run
traced_plan words job = bind (inputs_plan job.consoles) (after_inputs_traced words job)

-- `trace JOB FIRST COUNT OUT`: JOB is read, then the inputs that it names, and steps of its consoles are listed.
abbrev pub trace_plan : TraceWords → Plan Run
trace_plan words = bind (job_plan_with (Some (trace_file words.run.out)) words.run) (traced_plan words)
