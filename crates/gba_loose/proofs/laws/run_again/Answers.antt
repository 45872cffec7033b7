use Rattle.gba_loose.proofs.Run.{run-made-again}
use Rattle.gba_loose.proofs.laws.run_again.Goals as goal

pub returns : goal.returns
returns c = run-made-again
