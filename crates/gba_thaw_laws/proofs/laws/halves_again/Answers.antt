use Rattle.gba_thaw_laws.proofs.Halves.{halves-again}
use Rattle.gba_thaw_laws.proofs.laws.halves_again.Goals as goal

pub returns : goal.returns
returns c = halves-again
