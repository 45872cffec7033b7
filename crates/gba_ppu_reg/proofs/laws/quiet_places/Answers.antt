use Rattle.gba_ppu_reg.proofs.Silence.{quiet-places}
use Rattle.gba_ppu_reg.proofs.laws.quiet_places.Goals as goal

pub returns : goal.returns
returns c = quiet-places
