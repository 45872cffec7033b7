use Rattle.gba_serial.proofs.Lengths.{starts}
use Rattle.gba_serial.proofs.laws.starts_in_time.Goals as goal

pub returns : goal.returns
returns c = starts
