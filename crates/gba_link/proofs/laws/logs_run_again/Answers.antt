use Rattle.gba_link.proofs.RunsAgain.{run-again}
use Rattle.gba_link.proofs.laws.logs_run_again.Goals as goal

pub returns : goal.returns
returns c = λ old new first again run comes has. run-again old new first again run comes has
