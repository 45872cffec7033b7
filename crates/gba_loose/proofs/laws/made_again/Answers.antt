use Rattle.gba_loose.proofs.Made.{made-again}
use Rattle.gba_loose.proofs.laws.made_again.Goals as goal

pub returns : goal.returns
returns c = made-again
