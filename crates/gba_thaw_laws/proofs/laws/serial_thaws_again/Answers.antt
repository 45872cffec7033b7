use Rattle.gba_thaw_laws.proofs.Serial.{serial-again}
use Rattle.gba_thaw_laws.proofs.laws.serial_thaws_again.Goals as goal

pub returns : goal.returns
returns c = serial-again
