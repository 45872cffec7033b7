use Rattle.std.proofs.lemmas.Result.{err_from_is_err_and}
use Rattle.gba_command.specs.Views.{run_words_value}
use Rattle.gba_command.proofs.Plans.{goes-then, goes-stop}
use Rattle.gba_joblog.specs.Views.{job_value}
use Rattle.gba_link.specs.RunPlan.{job_plan, run_plan}
use Rattle.gba_link.proofs.run.prepare_command.Goals as goal

pub returns-in_err-job : goal.returns-in_err-job
returns-in_err-job g c =
    let words = run_words_value c.args.words.now in
    let p = err_from_is_err_and c.from_residual.result c.from_residual.ensures.1 in
    rw (p.1, p.2) (goes-stop g.S.Store.gives (job_plan words) (run_plan words) _ _ _ c.in_err-job.ensures.goes)

pub returns : goal.returns
returns g c =
    let words = run_words_value c.args.words.now in
    goes-then g.S.Store.gives (job_plan words) (run_plan words) _ _ _ (job_value c.in_ok-job.job) _
    c.in_ok-job.ensures.goes c.prepare_job.ensures
