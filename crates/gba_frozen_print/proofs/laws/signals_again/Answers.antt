use Rattle.gba_frozen_print.proofs.LinesAgain.{signals-again}
use Rattle.gba_frozen_print.proofs.laws.signals_again.Goals as goal

pub returns : goal.returns
returns c = signals-again
