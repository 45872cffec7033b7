use Rattle.gba_frozen_print.proofs.LinesAgain.{drawn-again}
use Rattle.gba_frozen_print.proofs.laws.drawn_again.Goals as goal

pub returns : goal.returns
returns c = drawn-again
