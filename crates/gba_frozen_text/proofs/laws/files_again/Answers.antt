use Rattle.gba_frozen_text.proofs.Whole.{files-again}
use Rattle.gba_frozen_text.proofs.laws.files_again.Goals as goal

pub returns : goal.returns
returns c = files-again
