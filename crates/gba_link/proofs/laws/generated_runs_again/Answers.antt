use Rattle.gba_link.proofs.GeneratedAgain.{made-again}
use Rattle.gba_link.proofs.laws.generated_runs_again.Goals as goal

pub returns : goal.returns
returns c = λ files words out are has. made-again files words out are has
