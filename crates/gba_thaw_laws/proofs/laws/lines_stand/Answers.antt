use Rattle.gba_thaw_laws.proofs.Lines.{lines-of-console-stand}
use Rattle.gba_thaw_laws.proofs.laws.lines_stand.Goals as goal

pub returns : goal.returns
returns c = lines-of-console-stand
