use Rattle.gba_psg.proofs.Sound.{stays-sound}
use Rattle.gba_psg.proofs.laws.stays_sound.Goals as goal

pub returns : goal.returns
returns c = stays-sound
