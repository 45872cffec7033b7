use Rattle.gba_thaw.proofs.Sound.{thaws-soundly}
use Rattle.gba_thaw.proofs.laws.thaws_soundly.Goals as goal

pub returns : goal.returns
returns c = thaws-soundly
