use Rattle.gba_thaw_laws.proofs.Devices.{devices-again}
use Rattle.gba_thaw_laws.proofs.laws.devices_thaw_again.Goals as goal

pub returns : goal.returns
returns c = devices-again
