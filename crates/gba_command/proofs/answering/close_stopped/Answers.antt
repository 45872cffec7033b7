use Rattle.gba_command.specs.Views.{write_stop_value}
use Rattle.gba_command.specs.Writing.{file_calls, summary_calls}
use Rattle.gba_command.proofs.Calls.{performs-stopped, stopped}
use Rattle.gba_command.proofs.answering.close_stopped.Goals as goal

pub returns : goal.returns
returns g c = λ run old written. (
  _,
  write_stop_value c.args.stop.now,
  performs-stopped g.O.Sink.Tells (file_calls run) (summary_calls run.end) _ _ _ written (stopped c.args.stop.now),
  c.report_stop.ensures run.end,
)
