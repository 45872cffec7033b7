use Rattle.std.proofs.Common.{map}
use Rattle.std.proofs.lemmas.Result.{err_from_is_err_and}
use Rattle.gba_command.proofs.Each.{goes-done}
use Rattle.gba_command.proofs.Plans.{goes-lacks, goes-stop, goes-then}
use Rattle.gba_inputs.specs.InputsPlan.{inputs_plan}
use Rattle.gba_inputs.specs.Views.{inputs_value}
use Rattle.gba_joblog.specs.Views.{job_value}
use Rattle.gba_link.specs.RunPlan.{after_inputs, result_of_run}
use Rattle.gba_command.specs.Views.{run_words_value}
use Rattle.gba_link.proofs.run.prepare_job.Goals as goal

pub returns-in_err-inputs : goal.returns-in_err-inputs
returns-in_err-inputs g c =
    let job = job_value c.args.job in
    let words = run_words_value c.args.words.now in
    let gives = g.S.Store.gives in
    let p = err_from_is_err_and c.from_residual.result c.from_residual.ensures.1 in
    rw (p.1, p.2) (goes-stop gives (inputs_plan job.consoles) (after_inputs words job) _ _ _
    (rw c.as_slice.ensures.value at c.in_err-inputs.ensures.goes))

pub returns-in-Ok : goal.returns-in-Ok
returns-in-Ok g c =
    let job = job_value c.args.job in
    let words = run_words_value c.args.words.now in
    let inputs = map inputs_value c.in_ok-inputs.inputs.items in
    let gives = g.S.Store.gives in
    goes-then gives (inputs_plan job.consoles) (after_inputs words job) _ _ _ inputs _
    (rw c.as_slice.ensures.value at c.in_ok-inputs.ensures.goes)
    (goes-done gives (result_of_run words.out job inputs) _ _ (rw c.new.ensures.items at c.in-Ok.ensures))

pub returns-in-Err : goal.returns-in-Err
returns-in-Err g c =
    let job = job_value c.args.job in
    let words = run_words_value c.args.words.now in
    let inputs = map inputs_value c.in_ok-inputs.inputs.items in
    let gives = g.S.Store.gives in
    goes-then gives (inputs_plan job.consoles) (after_inputs words job) _ _ _ inputs _
    (rw c.as_slice.ensures.value at c.in_ok-inputs.ensures.goes)
    (goes-lacks gives (after_inputs words job inputs) _)
