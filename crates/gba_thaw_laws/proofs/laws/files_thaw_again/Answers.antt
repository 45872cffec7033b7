use Rattle.gba_thaw_laws.proofs.Cut.{files-thaw-again}
use Rattle.gba_thaw_laws.proofs.laws.files_thaw_again.Goals as goal

pub returns : goal.returns
returns c = files-thaw-again
