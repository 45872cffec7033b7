use Rattle.gba_generator.proofs.MadeJob.{job-read}
use Rattle.gba_generator.proofs.laws.read.Goals as goal

pub returns : goal.returns
returns c = record { law = job-read }
