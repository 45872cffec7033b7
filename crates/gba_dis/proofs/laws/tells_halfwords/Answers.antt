use Rattle.gba_dis.proofs.Told.{halfwords_told}
use Rattle.gba_dis.proofs.laws.tells_halfwords.Goals as goal

pub returns : goal.returns
returns c = record { law = halfwords_told }
