use Rattle.gba_thaw_laws.proofs.Sounds.{sound-thaws-again}
use Rattle.gba_thaw_laws.proofs.laws.sound_thaws_again.Goals as goal

pub returns : goal.returns
returns c = sound-thaws-again
