use Rattle.gba_frozen_print.proofs.LinesAgain.{queues-again}
use Rattle.gba_frozen_print.proofs.laws.queues_again.Goals as goal

pub returns : goal.returns
returns c = queues-again
