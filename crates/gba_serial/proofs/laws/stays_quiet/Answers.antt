use Rattle.gba_serial.proofs.Apart.{quiet}
use Rattle.gba_serial.proofs.laws.stays_quiet.Goals as goal

pub returns : goal.returns
returns c = quiet
