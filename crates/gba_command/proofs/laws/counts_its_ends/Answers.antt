use Rattle.gba_command.proofs.Completing.{run-closed}
use Rattle.gba_command.proofs.laws.counts_its_ends.Goals as goal

pub returns : goal.returns
returns g c = λ status run old new. run-closed g.O.Sink.Tells status run old new
