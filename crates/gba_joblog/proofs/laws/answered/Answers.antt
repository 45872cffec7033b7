use Rattle.gba_text.proofs.Languages.{says}
use Rattle.gba_joblog.specs.Language.{jobs, job_of}
use Rattle.gba_joblog.proofs.laws.answered.Goals as goal

pub returns : goal.returns
unfolding job_of
returns c = record { law = says jobs }
