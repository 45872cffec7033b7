use Rattle.std.proofs.Common.{◌≡◌}
use Rattle.link_run.specs.Adding.{Adding, IsWaiting}
use Rattle.link_run.proofs.Addings.{WaitsBefore}
use Rattle.link_run.proofs.gather.add_waiting.Given as goal

abbrev pub invariant-loop-one : goal.invariant-loop-one
invariant-loop-one l = record {
  delays : l.shell.delays ≡ l.fn.shell.delays;
  adding : Adding (IsWaiting l.waits) (WaitsBefore l.waits l.one-index) l.fn.shell.sent l.shell.sent;
}
