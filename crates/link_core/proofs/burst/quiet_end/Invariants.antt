use Rattle.std.proofs.Common.{ℕ, ◌<◌, ◌≤◌, get_or}
use Rattle.link_order.specs.declared.sent.Sent.{Sent}
use Rattle.link_node.specs.Delays.{hop_of}
use Rattle.link_core.specs.Burst.{ArrivesFrom}
use Rattle.link_core.proofs.burst.quiet_end.Given as goal

abbrev pub invariant-loop-one : goal.invariant-loop-one
invariant-loop-one l = record {
  most : l.quiet ≤ l.end;
  so_far : (k : ℕ) (d : Sent) → k < l.one-index
      → ArrivesFrom (hop_of l.delays) l.player l.was l.quiet (get_or l.sent k d);
}
