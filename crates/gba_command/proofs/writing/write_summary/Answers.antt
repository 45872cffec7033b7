use Rattle.std.proofs.Common.{refl}
use Rattle.gba_command.specs.Writing.{PerformsAll, line_call}
use Rattle.gba_command.proofs.Calls.{performs-one}
use Rattle.gba_command.proofs.writing.write_summary.Goals as goal

pub returns-in-Ok : goal.returns-in-Ok
returns-in-Ok g c =
    rw c.in-Ok.is
    (performs-one g.O.Sink.Tells (line_call c.in-Ok.summary.items) _ _ _
    (rw c.as_slice.ensures.value at c.append.ensures))

pub returns-in-Err : goal.returns-in-Err
unfolding PerformsAll
returns-in-Err g c = rw c.in-Err.is (refl, refl)
