use Rattle.std.proofs.Common.{ap, sym, subst, ◌∙◌}
use Rattle.gba_joblog.specs.Job.{WholeJob}
use Rattle.gba_joblog.specs.Unasked.{unasked}
use Rattle.gba_joblog.specs.Views.{job_value}
use Rattle.gba_session.specs.Start.{FitJob}
use Rattle.gba_link.proofs.Runs.{unasked-fit}
use Rattle.gba_link.proofs.tracing.unasked_job.Goals as goal

pub returns-clause-filled : goal.returns-clause-filled
returns-clause-filled c = c.without_outputs-job.ensures.value ∙ ap unasked c.in_ok-job.ensures.filled

pub returns-clause-fit : goal.returns-clause-fit
returns-clause-fit c =
    let made = c.in_ok-job in
    subst (λ (job : WholeJob). FitJob job made.images.items) (sym c.without_outputs-job.ensures.value)
    (unasked-fit (job_value made.job).consoles made.images.items made.ensures.fit)
