use Rattle.std.proofs.Common.{List, ℕ, Result, subst}
use Rattle.gba_command.specs.Answer.{Concludes}
use Rattle.gba_command.specs.Cause.{Cause}
use Rattle.gba_command.specs.Views.{write_stop_value}
use Rattle.gba_command.specs.Writing.{PerformsAll, Wrote, file_calls, summary_calls}
use Rattle.gba_command.proofs.Calls.{performs-then}
use Rattle.gba_command.proofs.answering.close_written.Goals as goal

pub returns-in-Ok : goal.returns-in-Ok
returns-in-Ok g c = λ run old written same. (
  _,
  Wrote,
  performs-then g.O.Sink.Tells (file_calls run) (summary_calls run.end) _ _ _ Wrote written
      (subst (λ (end : Result (List ℕ) Cause). PerformsAll g.O.Sink.Tells (summary_calls end)
      (g.O.Sink.state c.args.out.now) (g.O.Sink.state c.write_summary.new.out) Wrote) same c.in-Ok.ensures),
  subst (λ (end : Result (List ℕ) Cause). Concludes g.O.Sink.Tells c.conclude.result end
      (g.O.Sink.state c.write_summary.new.out) (g.O.Sink.state c.conclude.new.out)) same c.conclude.ensures,
)

pub returns-in-Err : goal.returns-in-Err
returns-in-Err g c = λ run old written same. (
  _,
  write_stop_value c.in-Err.stop,
  performs-then g.O.Sink.Tells (file_calls run) (summary_calls run.end) _ _ _ _ written
      (subst (λ (end : Result (List ℕ) Cause). PerformsAll g.O.Sink.Tells (summary_calls end)
      (g.O.Sink.state c.args.out.now) (g.O.Sink.state c.write_summary.new.out) (write_stop_value c.in-Err.stop)) same
      c.in-Err.ensures),
  c.report_stop.ensures run.end,
)
