use Rattle.gba_devices.proofs.Keeping.{writes-keep}
use Rattle.gba_devices.proofs.laws.writes_keep.Goals as goal

pub returns : goal.returns
returns c = writes-keep
