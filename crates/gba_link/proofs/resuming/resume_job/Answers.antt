use Rattle.std.proofs.Common.{map}
use Rattle.std.proofs.lemmas.Result.{err_from_is_err_and}
use Rattle.gba_command.proofs.Plans.{goes-stop, goes-then}
use Rattle.gba_command.specs.Views.{resume_words_value}
use Rattle.gba_inputs.specs.InputsPlan.{inputs_plan}
use Rattle.gba_inputs.specs.Views.{inputs_value}
use Rattle.gba_joblog.specs.Views.{job_value}
use Rattle.gba_link.specs.ResumePlan.{after_inputs_resumed}
use Rattle.gba_link.proofs.resuming.resume_job.Goals as goal

pub returns-in_err-inputs : goal.returns-in_err-inputs
returns-in_err-inputs g c =
    let words = resume_words_value c.args.words.now in
    let job = job_value c.args.job in
    let p = err_from_is_err_and c.from_residual.result c.from_residual.ensures.1 in
    rw (p.1, p.2)
    (goes-stop g.S.Store.gives (inputs_plan job.consoles) (after_inputs_resumed words job) _ _ _
    (rw c.as_slice.ensures.value at c.in_err-inputs.ensures.goes))

pub returns : goal.returns
returns g c =
    let words = resume_words_value c.args.words.now in
    let job = job_value c.args.job in
    let inputs = map inputs_value c.in_ok-inputs.inputs.items in
    goes-then g.S.Store.gives (inputs_plan job.consoles) (after_inputs_resumed words job) _ _ _ inputs _
    (rw c.as_slice.ensures.value at c.in_ok-inputs.ensures.goes) c.resume_frozen.ensures
