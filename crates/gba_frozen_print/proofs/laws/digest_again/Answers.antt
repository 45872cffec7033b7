use Rattle.gba_frozen_print.proofs.LinesAgain.{digest-again}
use Rattle.gba_frozen_print.proofs.laws.digest_again.Goals as goal

pub returns : goal.returns
returns c = digest-again
