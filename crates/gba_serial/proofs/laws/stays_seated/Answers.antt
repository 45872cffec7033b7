use Rattle.gba_serial.proofs.Seats.{stays}
use Rattle.gba_serial.proofs.laws.stays_seated.Goals as goal

pub returns : goal.returns
returns c = stays
