use Rattle.gba_psg.proofs.Ticking.{cycles-add}
use Rattle.gba_psg.proofs.laws.cycles_add.Goals as goal

pub returns : goal.returns
returns c = cycles-add
