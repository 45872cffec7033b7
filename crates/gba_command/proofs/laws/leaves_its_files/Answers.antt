use Rattle.gba_command.proofs.LeftFiles.{left-files}
use Rattle.gba_command.proofs.laws.leaves_its_files.Goals as goal

pub returns : goal.returns
returns g c = λ run old new. left-files g.O.Sink.Tells run old new
