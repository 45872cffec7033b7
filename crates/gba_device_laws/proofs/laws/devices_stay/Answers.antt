use Rattle.gba_device_laws.proofs.Devices.{devices-stay}
use Rattle.gba_device_laws.proofs.laws.devices_stay.Goals as goal

pub returns : goal.returns
returns c = devices-stay c.stays_consistent.ensures c.stays_sound.ensures
