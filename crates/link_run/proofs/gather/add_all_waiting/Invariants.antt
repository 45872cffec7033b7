use Rattle.std.proofs.Common.{◌≡◌}
use Rattle.std.specs.Prelude.{map}
use Rattle.link_run.specs.Adding.{Adding, WaitsIn}
use Rattle.link_run.proofs.Addings.{WaitsInFirst}
use Rattle.link_run.proofs.gather.add_all_waiting.Given as goal

abbrev pub invariant-loop-list : goal.invariant-loop-list
invariant-loop-list l = record {
  delays : l.shell.delays ≡ l.fn.shell.delays;
  adding : Adding (WaitsIn (map (λ list. list.items) l.waits))
      (WaitsInFirst (map (λ list. list.items) l.waits) l.list-index) l.fn.shell.sent l.shell.sent;
}
