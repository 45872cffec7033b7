use Rattle.std.proofs.Common.{Some, map}
use Rattle.std.proofs.lemmas.Result.{err_from_is_err_and}
use Rattle.gba_command.specs.Views.{trace_words_value}
use Rattle.gba_command.proofs.Each.{goes-done}
use Rattle.gba_command.proofs.Plans.{goes-lacks, goes-stop, goes-then}
use Rattle.gba_inputs.specs.InputsPlan.{inputs_plan}
use Rattle.gba_inputs.specs.Views.{inputs_value}
use Rattle.gba_joblog.specs.Views.{job_value}
use Rattle.gba_link.specs.RunPlan.{job_plan_with}
use Rattle.gba_link.specs.TracePlan.{after_inputs_traced, result_of_trace, trace_file, trace_plan, traced_plan}
use Rattle.gba_link.proofs.tracing.trace_command.Goals as goal

pub returns-in_default : goal.returns-in_default
returns-in_default g c = goes-lacks g.S.Store.gives (trace_plan (trace_words_value c.args.words.now)) _

pub returns-in_err-job : goal.returns-in_err-job
returns-in_err-job g c =
    let words = trace_words_value c.args.words.now in
    let p = err_from_is_err_and c.from_residual.result c.from_residual.ensures.1 in
    rw (p.1, p.2)
    (goes-stop g.S.Store.gives (job_plan_with (Some (trace_file words.run.out)) words.run) (traced_plan words) _ _ _
    (rw (c.as_str.ensures.value, c.in-Ok.ensures.name) at c.in_err-job.ensures.goes))

pub returns-in_err-inputs : goal.returns-in_err-inputs
returns-in_err-inputs g c =
    let words = trace_words_value c.args.words.now in
    let gives = g.S.Store.gives in
    let job = job_value c.in_ok-job.job in
    let p = err_from_is_err_and c.from_residual-in_err-inputs.result c.from_residual-in_err-inputs.ensures.1 in
    rw (p.1, p.2)
    (goes-then gives (job_plan_with (Some (trace_file words.run.out)) words.run) (traced_plan words) _ _ _ job _
    (rw (c.as_str.ensures.value, c.in-Ok.ensures.name) at c.in_ok-job.ensures.goes)
    (goes-stop gives (inputs_plan job.consoles) (after_inputs_traced words job) _ _ _
    (rw c.as_slice.ensures.value at c.in_err-inputs.ensures.goes)))

pub returns-in-Ok-trace_inputs : goal.returns-in-Ok-trace_inputs
returns-in-Ok-trace_inputs g c =
    let words = trace_words_value c.args.words.now in
    let gives = g.S.Store.gives in
    let job = job_value c.in_ok-job.job in
    let inputs = map inputs_value c.in_ok-inputs.inputs.items in
    goes-then gives (job_plan_with (Some (trace_file words.run.out)) words.run) (traced_plan words) _ _ _ job _
    (rw (c.as_str.ensures.value, c.in-Ok.ensures.name) at c.in_ok-job.ensures.goes)
    (goes-then gives (inputs_plan job.consoles) (after_inputs_traced words job) _ _ _ inputs _
    (rw c.as_slice.ensures.value at c.in_ok-inputs.ensures.goes)
    (goes-done gives (result_of_trace words job inputs) _ _ c.in-Ok-trace_inputs.ensures))

pub returns-in-Err : goal.returns-in-Err
returns-in-Err g c =
    let words = trace_words_value c.args.words.now in
    let gives = g.S.Store.gives in
    let job = job_value c.in_ok-job.job in
    let inputs = map inputs_value c.in_ok-inputs.inputs.items in
    goes-then gives (job_plan_with (Some (trace_file words.run.out)) words.run) (traced_plan words) _ _ _ job _
    (rw (c.as_str.ensures.value, c.in-Ok.ensures.name) at c.in_ok-job.ensures.goes)
    (goes-then gives (inputs_plan job.consoles) (after_inputs_traced words job) _ _ _ inputs _
    (rw c.as_slice.ensures.value at c.in_ok-inputs.ensures.goes)
    (goes-lacks gives (after_inputs_traced words job inputs) _))
