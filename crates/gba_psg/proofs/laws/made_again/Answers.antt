use Rattle.gba_psg.proofs.Again.{made-again}
use Rattle.gba_psg.proofs.laws.made_again.Goals as goal

pub returns : goal.returns
returns c = made-again
