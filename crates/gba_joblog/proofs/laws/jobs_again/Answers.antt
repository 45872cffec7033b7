use Rattle.gba_joblog.proofs.LogAgain.{job-again}
use Rattle.gba_joblog.proofs.laws.jobs_again.Goals as goal

pub returns : goal.returns
returns c = record { law = job-again }
