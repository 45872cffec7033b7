use Rattle.gba_device_laws.proofs.Cables.{serial-stays}
use Rattle.gba_device_laws.proofs.laws.serial_stays.Goals as goal

pub returns : goal.returns
returns c = serial-stays c.writes_keep_transfers.ensures
