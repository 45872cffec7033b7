use Rattle.std.proofs.Common.{sym, subst}
use Rattle.gba_joblog.specs.Soundness.{IsJob}
use Rattle.gba_joblog.specs.Views.{job_value}
use Rattle.gba_joblog.proofs.AskingNothing.{job-sound}
use Rattle.gba_joblog.proofs.job.Job.without_outputs.Goals as goal

pub returns-clause-sound : goal.returns-clause-sound
returns-clause-sound c = λ sound. subst IsJob (sym c.unask.ensures) (job-sound (job_value c.args.self) sound)
