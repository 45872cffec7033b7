use Rattle.gba_thaw.proofs.Plain.{thaw-plain}
use Rattle.gba_thaw.proofs.laws.thaws_plainly.Goals as goal

pub returns : goal.returns
returns c = thaw-plain
