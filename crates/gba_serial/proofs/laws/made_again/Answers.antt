use Rattle.gba_serial.proofs.Making.{made-again}
use Rattle.gba_serial.proofs.laws.made_again.Goals as goal

pub returns : goal.returns
returns c = made-again
