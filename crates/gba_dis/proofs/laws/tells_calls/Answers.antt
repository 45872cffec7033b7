use Rattle.gba_dis.proofs.Told.{calls_told}
use Rattle.gba_dis.proofs.laws.tells_calls.Goals as goal

pub returns : goal.returns
returns c = record { law = calls_told }
