use Rattle.gba_frozen_print.proofs.LinesAgain.{waves-again}
use Rattle.gba_frozen_print.proofs.laws.waves_again.Goals as goal

pub returns : goal.returns
returns c = waves-again
