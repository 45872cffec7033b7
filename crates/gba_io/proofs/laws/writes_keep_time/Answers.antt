use Rattle.gba_io.proofs.Keeping.{writes-keep-time}
use Rattle.gba_io.proofs.laws.writes_keep_time.Goals as goal

pub returns : goal.returns
returns c = writes-keep-time c.writes_keep.ensures
