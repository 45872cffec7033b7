use Rattle.gba_serial.proofs.Apart.{apart}
use Rattle.gba_serial.proofs.laws.ends_apart.Goals as goal

pub returns : goal.returns
returns c = apart
