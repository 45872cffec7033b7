use Rattle.gba_command.proofs.LeftFiles.{has-own-files}
use Rattle.gba_command.proofs.laws.at_once_is_whole.Goals as goal

pub returns : goal.returns
returns c = λ outputs end differ none. has-own-files outputs end differ none
