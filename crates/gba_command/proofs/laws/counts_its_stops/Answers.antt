use Rattle.gba_command.proofs.Ends.{absent-rose, fault-rose}
use Rattle.gba_command.proofs.laws.counts_its_stops.Goals as goal

pub returns : goal.returns
returns g c =
    λ plan old new name. (
      absent-rose g.S.Store.Tells g.S.Store.files g.S.Store.Reads g.S.Store.absences g.S.Store.faults g.S.Store.gives
          g.met.S.Store.says plan old new name,
      fault-rose g.S.Store.Tells g.S.Store.files g.S.Store.Reads g.S.Store.absences g.S.Store.faults g.S.Store.gives
          g.met.S.Store.says plan old new name,
    )
