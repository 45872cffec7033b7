use Rattle.gba_command.proofs.Calls.{closes-stop}
use Rattle.gba_command.proofs.answering.report_stop.Goals as goal

pub returns : goal.returns
returns g c = λ conclusion.
    closes-stop g.O.Sink.Tells c.status.result conclusion c.args.stop.now _ _ c.status.ensures
    (rw c.report.ensures at c.report-2.ensures)
