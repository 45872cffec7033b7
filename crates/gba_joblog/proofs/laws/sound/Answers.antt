use Rattle.gba_joblog.proofs.Sound.{sound}
use Rattle.gba_joblog.proofs.laws.sound.Goals as goal

pub returns : goal.returns
returns c = record { law = sound }
