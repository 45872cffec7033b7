use Rattle.gba_text.proofs.Languages.{one}
use Rattle.gba_joblog.specs.Language.{jobs, job_of}
use Rattle.gba_joblog.proofs.laws.one_answer.Goals as goal

pub returns : goal.returns
unfolding job_of
returns c = record { law = one jobs }
