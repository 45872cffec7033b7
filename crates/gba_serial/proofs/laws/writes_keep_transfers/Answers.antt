use Rattle.gba_serial.proofs.Busy.{writes}
use Rattle.gba_serial.proofs.laws.writes_keep_transfers.Goals as goal

pub returns : goal.returns
returns c = writes
