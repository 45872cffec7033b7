use Rattle.gba_thaw_laws.proofs.Control.{control-thaws-again}
use Rattle.gba_thaw_laws.proofs.laws.control_thaws_again.Goals as goal

pub returns : goal.returns
returns c = control-thaws-again
