use Rattle.gba_mem.proofs.Saving.{stay-sound}
use Rattle.gba_mem.proofs.laws.backups_stay_sound.Goals as goal

pub returns : goal.returns
returns c = stay-sound
