use Rattle.gba_devices.proofs.Passing.{cycles-pass}
use Rattle.gba_devices.proofs.laws.cycles_pass.Goals as goal

pub returns : goal.returns
returns c = cycles-pass
