use Rattle.gba_thaw_laws.proofs.Console.{thaws-again}
use Rattle.gba_thaw_laws.proofs.laws.thaws_again.Goals as goal

pub returns : goal.returns
returns c = thaws-again
