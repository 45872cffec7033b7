use Rattle.gba_link.proofs.SparesInputs.{spared}
use Rattle.gba_link.proofs.laws.spares_its_inputs.Goals as goal

pub returns : goal.returns
returns c = λ files words job run comes says. spared files words job run comes says
