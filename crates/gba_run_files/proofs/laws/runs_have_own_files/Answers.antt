use Rattle.gba_run_files.proofs.OwnFiles.{run-own-files}
use Rattle.gba_run_files.proofs.laws.runs_have_own_files.Goals as goal

pub returns : goal.returns
returns c = λ out job images sound many. run-own-files c.segments.ensures.live out job images sound many
