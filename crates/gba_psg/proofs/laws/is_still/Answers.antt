use Rattle.gba_psg.proofs.Amounts.{is-still}
use Rattle.gba_psg.proofs.laws.is_still.Goals as goal

pub returns : goal.returns
returns c = is-still
