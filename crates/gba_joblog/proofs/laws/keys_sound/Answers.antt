use Rattle.gba_joblog.proofs.SoundChanges.{keys-sound}
use Rattle.gba_joblog.proofs.laws.keys_sound.Goals as goal

pub returns : goal.returns
returns c = record { law = keys-sound }
