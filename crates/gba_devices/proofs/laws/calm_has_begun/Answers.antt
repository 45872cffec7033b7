use Rattle.gba_devices.proofs.Keeping.{calm-has-begun}
use Rattle.gba_devices.proofs.laws.calm_has_begun.Goals as goal

pub returns : goal.returns
returns c = calm-has-begun
