use Rattle.gba_devices.proofs.Passing.{skips}
use Rattle.gba_devices.proofs.laws.skips_cycles.Goals as goal

pub returns : goal.returns
returns c = skips c.quiet_marks.ensures c.quiet_places.ensures
