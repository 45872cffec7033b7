use Rattle.std.proofs.Common.{map, Ok, Err}
use Rattle.std.proofs.lemmas.Result.{err_from_is_err_and}
use Rattle.gba_command.proofs.Each.{goes-done}
use Rattle.gba_command.proofs.Plans.{goes-judged, goes-lacks, goes-stop, goes-then}
use Rattle.gba_command.specs.Plan.{judgement}
use Rattle.gba_command.specs.Views.{freeze_words_value}
use Rattle.gba_inputs.specs.InputsPlan.{inputs_plan}
use Rattle.gba_inputs.specs.Views.{inputs_value}
use Rattle.gba_joblog.specs.Views.{job_value}
use Rattle.gba_link.specs.FreezePlan.{after_clock, after_inputs_frozen, clock_or_refusal, result_of_freeze}
use Rattle.gba_link.proofs.freezing.freeze_job.Goals as goal

pub returns-in_err-job : goal.returns-in_err-job
returns-in_err-job g c =
    let words = freeze_words_value c.args.words.now in
    let gives = g.S.Store.gives in
    let due = clock_or_refusal words (job_value c.args.job) in
    let p = err_from_is_err_and c.from_residual.result c.from_residual.ensures.1 in
    rw (p.1, p.2)
    (goes-stop gives (judgement due) (after_clock words) _ _ _
    (goes-judged gives job_value due (Err c.in_err-job.field-0.0) _ c.in_err-job.ensures.agrees))

pub returns-in_err-inputs : goal.returns-in_err-inputs
returns-in_err-inputs g c =
    let words = freeze_words_value c.args.words.now in
    let gives = g.S.Store.gives in
    let due = clock_or_refusal words (job_value c.args.job) in
    let job = job_value c.in_ok-job.job in
    let p = err_from_is_err_and c.from_residual-in_err-inputs.result c.from_residual-in_err-inputs.ensures.1 in
    rw (p.1, p.2)
    (goes-then gives (judgement due) (after_clock words) _ _ _ job _
    (goes-judged gives job_value due (Ok c.in_ok-job.job) _ c.in_ok-job.ensures.agrees)
    (goes-stop gives (inputs_plan job.consoles) (after_inputs_frozen words job) _ _ _
    (rw c.as_slice.ensures.value at c.in_err-inputs.ensures.goes)))

pub returns-in-Ok : goal.returns-in-Ok
returns-in-Ok g c =
    let words = freeze_words_value c.args.words.now in
    let gives = g.S.Store.gives in
    let due = clock_or_refusal words (job_value c.args.job) in
    let job = job_value c.in_ok-job.job in
    let inputs = map inputs_value c.in_ok-inputs.inputs.items in
    goes-then gives (judgement due) (after_clock words) _ _ _ job _
    (goes-judged gives job_value due (Ok c.in_ok-job.job) _ c.in_ok-job.ensures.agrees)
    (goes-then gives (inputs_plan job.consoles) (after_inputs_frozen words job) _ _ _ inputs _
    (rw c.as_slice.ensures.value at c.in_ok-inputs.ensures.goes)
    (goes-done gives (result_of_freeze words job inputs) _ _ c.in-Ok.ensures))

pub returns-in-Err : goal.returns-in-Err
returns-in-Err g c =
    let words = freeze_words_value c.args.words.now in
    let gives = g.S.Store.gives in
    let due = clock_or_refusal words (job_value c.args.job) in
    let job = job_value c.in_ok-job.job in
    let inputs = map inputs_value c.in_ok-inputs.inputs.items in
    goes-then gives (judgement due) (after_clock words) _ _ _ job _
    (goes-judged gives job_value due (Ok c.in_ok-job.job) _ c.in_ok-job.ensures.agrees)
    (goes-then gives (inputs_plan job.consoles) (after_inputs_frozen words job) _ _ _ inputs _
    (rw c.as_slice.ensures.value at c.in_ok-inputs.ensures.goes)
    (goes-lacks gives (after_inputs_frozen words job inputs) _))
