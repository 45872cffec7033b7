use Rattle.gba_thaw_laws.proofs.Lines.{lines-thaw-again}
use Rattle.gba_thaw_laws.proofs.laws.lines_thaw_again.Goals as goal

pub returns : goal.returns
returns c = lines-thaw-again
