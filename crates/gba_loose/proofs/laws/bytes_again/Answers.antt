use Rattle.gba_loose.proofs.Bytes.{bytes-made-again}
use Rattle.gba_loose.proofs.laws.bytes_again.Goals as goal

pub returns : goal.returns
returns c = bytes-made-again
