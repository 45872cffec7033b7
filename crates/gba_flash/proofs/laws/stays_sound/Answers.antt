use Rattle.gba_flash.proofs.Sound.{stays-sound}
use Rattle.gba_flash.proofs.laws.stays_sound.Goals as goal

pub returns : goal.returns
returns c = stays-sound
