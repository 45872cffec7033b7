use Rattle.gba_run_files.proofs.OwnFiles.{frozen-own-files}
use Rattle.gba_run_files.proofs.laws.frozen_runs_have_own_files.Goals as goal

pub returns : goal.returns
returns c =
    λ out digest job images sound many. frozen-own-files c.segments.ensures.live out job images sound many digest
