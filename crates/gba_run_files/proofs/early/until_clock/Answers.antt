use Rattle.std.proofs.Common.{sym, subst}
use Rattle.gba_joblog.specs.Job.{WholeJob}
use Rattle.gba_joblog.specs.Soundness.{IsJob}
use Rattle.gba_joblog.specs.Views.{job_value}
use Rattle.gba_session.specs.Start.{FitJob}
use Rattle.gba_run_files.proofs.Shortening.{job-until-sound, until-fit}
use Rattle.gba_run_files.proofs.early.until_clock.Goals as goal

pub returns-clause-sound : goal.returns-clause-sound
returns-clause-sound c =
    λ sound. subst IsJob (sym c.shorten.ensures)
    (job-until-sound c.args.clock (job_value c.args.job) c.requires.some c.requires.most sound)

pub returns-clause-fit : goal.returns-clause-fit
returns-clause-fit c = λ images fit.
    subst (λ (job : WholeJob). FitJob job images) (sym c.shorten.ensures)
    (until-fit (job_value c.args.job).consoles images fit)
