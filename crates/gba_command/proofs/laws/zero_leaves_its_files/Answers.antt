use Rattle.gba_command.proofs.LeftFiles.{left-by-zero}
use Rattle.gba_command.proofs.laws.zero_leaves_its_files.Goals as goal

pub returns : goal.returns
returns g c = λ run old new. left-by-zero g.O.Sink.Tells run old new
