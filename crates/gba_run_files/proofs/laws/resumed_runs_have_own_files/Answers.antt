use Rattle.gba_run_files.proofs.OwnFiles.{resumed-own-files}
use Rattle.gba_run_files.proofs.laws.resumed_runs_have_own_files.Goals as goal

pub returns : goal.returns
returns c = resumed-own-files c.segments.ensures.live
