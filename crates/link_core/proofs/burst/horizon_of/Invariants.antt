use Rattle.std.proofs.Common.{ℕ, ◌≢◌, ◌+◌, ◌<◌, ◌≤◌}
use Rattle.std.specs.Prelude.{length, map, slice_index}
use Rattle.link_node.specs.Delays.{hop_of}
use Rattle.link_core.proofs.burst.horizon_of.Given as goal

abbrev pub invariant-loop-j : goal.invariant-loop-j
invariant-loop-j g l = record {
  most : l.end ≤ l.until;
  ahead : (j : ℕ) → j < l.j → j ≢ l.i
      → l.end ≤ slice_index (map g.N.Node.clock (map g.N.Node.plain l.nodes)) j + hop_of l.delays j l.i;
  far : (clock : ℕ) → clock < l.until → ((j : ℕ) → j < length l.nodes → j ≢ l.i
      → clock < slice_index (map g.N.Node.clock (map g.N.Node.plain l.nodes)) j + hop_of l.delays j l.i)
      → clock < l.end;
}
