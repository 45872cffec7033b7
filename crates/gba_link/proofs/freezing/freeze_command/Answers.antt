use Rattle.std.proofs.Common.{Some}
use Rattle.std.proofs.lemmas.Result.{err_from_is_err_and}
use Rattle.gba_command.specs.Views.{freeze_words_value}
use Rattle.gba_command.proofs.Plans.{goes-lacks, goes-stop, goes-then}
use Rattle.gba_joblog.specs.Views.{job_value}
use Rattle.gba_link.specs.FreezePlan.{freeze_plan, frozen_plan}
use Rattle.gba_link.specs.RunPlan.{job_plan_with}
use Rattle.gba_run_files.specs.Frozen.{frozen_name}
use Rattle.gba_link.proofs.freezing.freeze_command.Goals as goal

pub returns-in_default : goal.returns-in_default
returns-in_default g c = goes-lacks g.S.Store.gives (freeze_plan (freeze_words_value c.args.words.now)) _

pub returns-in_err-job : goal.returns-in_err-job
returns-in_err-job g c =
    let words = freeze_words_value c.args.words.now in
    let p = err_from_is_err_and c.from_residual.result c.from_residual.ensures.1 in
    rw (p.1, p.2)
    (goes-stop g.S.Store.gives (job_plan_with (Some (frozen_name words.run.out)) words.run) (frozen_plan words) _ _ _
    (rw (c.as_str.ensures.value, c.in-Ok.ensures.name) at c.in_err-job.ensures.goes))

pub returns : goal.returns
returns g c =
    let words = freeze_words_value c.args.words.now in
    goes-then g.S.Store.gives (job_plan_with (Some (frozen_name words.run.out)) words.run) (frozen_plan words) _ _ _
    (job_value c.in_ok-job.job) _
    (rw (c.as_str.ensures.value, c.in-Ok.ensures.name) at c.in_ok-job.ensures.goes) c.freeze_job.ensures
