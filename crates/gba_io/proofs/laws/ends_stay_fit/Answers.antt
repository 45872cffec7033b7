use Rattle.gba_io.proofs.Ending.{ends-stay-fit}
use Rattle.gba_io.proofs.laws.ends_stay_fit.Goals as goal

pub returns : goal.returns
returns c = ends-stay-fit c.ends_apart.ensures c.stays_seated.ensures
