use Rattle.gba_freeze_laws.proofs.FileLengths.{files-short}
use Rattle.gba_freeze_laws.proofs.laws.frozen_files_are_short.Goals as goal

pub returns : goal.returns
returns c = files-short
