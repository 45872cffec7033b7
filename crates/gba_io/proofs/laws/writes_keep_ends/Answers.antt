use Rattle.gba_io.proofs.Ending.{writes-keep-ends}
use Rattle.gba_io.proofs.laws.writes_keep_ends.Goals as goal

pub returns : goal.returns
returns c = writes-keep-ends c.ends_apart.ensures c.stays_seated.ensures
