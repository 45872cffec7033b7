use Rattle.gba_devices.proofs.Passing.{cycle-keeps}
use Rattle.gba_devices.proofs.laws.cycle_keeps.Goals as goal

pub returns : goal.returns
returns c = cycle-keeps
