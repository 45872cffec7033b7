use Rattle.gba_thaw_laws.proofs.Stored.{bits-stored}
use Rattle.gba_thaw_laws.proofs.laws.bits_are_stored.Goals as goal

pub returns : goal.returns
returns c = bits-stored
