use Rattle.gba_link.proofs.KeptAsked.{kept}
use Rattle.gba_link.proofs.laws.keeps_what_is_asked.Goals as goal

pub returns : goal.returns
returns c = λ files words job inputs run comes says passes. kept files words job inputs run comes says passes
