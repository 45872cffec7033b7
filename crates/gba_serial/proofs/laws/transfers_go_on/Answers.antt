use Rattle.gba_serial.proofs.Going.{goes}
use Rattle.gba_serial.proofs.laws.transfers_go_on.Goals as goal

pub returns : goal.returns
returns c = goes
