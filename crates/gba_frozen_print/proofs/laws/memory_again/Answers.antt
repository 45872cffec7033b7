use Rattle.gba_frozen_print.proofs.LinesAgain.{memory-again}
use Rattle.gba_frozen_print.proofs.laws.memory_again.Goals as goal

pub returns : goal.returns
returns c = memory-again
