use Rattle.std.proofs.Common.{refl}
use Rattle.gba_command.specs.Views.{run_value}
use Rattle.gba_command.proofs.answering.finish.Goals as goal

pub returns-in-Ok : goal.returns-in-Ok
returns-in-Ok g c =
    c.close_written.ensures (run_value c.args.run.now) _ (rw c.as_slice.ensures.value at c.in-Ok.ensures) refl

pub returns-in-Err : goal.returns-in-Err
returns-in-Err g c =
    c.close_stopped.ensures (run_value c.args.run.now) _ (rw c.as_slice.ensures.value at c.in-Err.ensures)
