use Rattle.gba_command.proofs.Ends.{said}
use Rattle.gba_command.proofs.laws.ends_in_its_outcome.Goals as goal

pub returns : goal.returns
returns g c =
    λ plan old new end. said g.S.Store.Tells g.S.Store.files g.S.Store.Reads g.S.Store.absences g.S.Store.faults
    g.S.Store.gives g.met.S.Store.says plan old new end
