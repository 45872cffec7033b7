use Rattle.gba_link.proofs.ComparedDigests.{compared}
use Rattle.gba_link.proofs.laws.compares_digests.Goals as goal

pub returns : goal.returns
returns c = λ files words job run comes says. compared files words job run comes says
