use Rattle.gba_frozen_print.proofs.RowsSound.{rows-sound}
use Rattle.gba_frozen_print.proofs.laws.rows_sound.Goals as goal

pub returns : goal.returns
returns c = rows-sound
