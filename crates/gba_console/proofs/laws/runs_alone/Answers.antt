use Rattle.gba_console.proofs.Alone.{runs-alone}
use Rattle.gba_console.proofs.laws.runs_alone.Goals as goal

pub returns : goal.returns
returns c = runs-alone c.enough.ensures
