use Rattle.gba_command.proofs.LeftFiles.{left-fronts, left-pieces}
use Rattle.gba_command.proofs.laws.leaves_its_fronts.Goals as goal

pub returns : goal.returns
returns g c = λ run old new tells own. (
  λ name. left-fronts g.O.Sink.Tells run old new name tells own,
  left-pieces g.O.Sink.Tells run old new tells own,
)
