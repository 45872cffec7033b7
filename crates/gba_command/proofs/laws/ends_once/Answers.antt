use Rattle.gba_command.proofs.Once.{once}
use Rattle.gba_command.proofs.laws.ends_once.Goals as goal

pub returns : goal.returns
returns c = λ plan old new newer end other. once plan old new newer end other
