use Rattle.gba_freeze_laws.proofs.Going.{goes-on}
use Rattle.gba_freeze_laws.proofs.laws.frozen_runs_go_on.Goals as goal

pub returns : goal.returns
returns c =
    goes-on c.runs_can_be_frozen.ensures c.frozen_files_are_short.ensures c.files_thaw_again.ensures
    c.segments.ensures.live c.cable.ensures c.alike.ensures c.runs.ensures.all
