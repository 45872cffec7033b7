use Rattle.gba_command.proofs.Ends.{nothing-hidden}
use Rattle.gba_command.proofs.laws.hides_nothing.Goals as goal

pub returns : goal.returns
returns g c =
    λ exact plan old new. nothing-hidden g.S.Store.Tells g.S.Store.files g.S.Store.Reads g.S.Store.absences
    g.S.Store.faults g.S.Store.gives g.met.S.Store.says exact plan old new
