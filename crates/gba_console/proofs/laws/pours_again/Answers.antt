use Rattle.gba_console.proofs.Poured.{poured-again}
use Rattle.gba_console.proofs.laws.pours_again.Goals as goal

pub returns : goal.returns
returns c = poured-again
