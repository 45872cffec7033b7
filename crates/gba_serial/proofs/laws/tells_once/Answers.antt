use Rattle.gba_serial.proofs.Telling.{tells}
use Rattle.gba_serial.proofs.laws.tells_once.Goals as goal

pub returns : goal.returns
returns c = tells
