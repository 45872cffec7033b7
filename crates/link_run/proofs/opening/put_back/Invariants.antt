use Rattle.std.proofs.Common.{◌≡◌, ◌+◌, ◌≤◌}
use Rattle.std.specs.Prelude.{◌++◌, length, map}
use Rattle.std.specs.Vec.{vec_len, vec_capacity}
use Rattle.link_run.specs.Rounds.{node_of}
use Rattle.link_run.proofs.opening.put_back.Given as goal

abbrev pub invariant-loop-lanes : goal.invariant-loop-lanes
invariant-loop-lanes g l = record {
  whole : l.nodes.items ++ map node_of l.lanes.items ≡ l.fn.nodes.items ++ map node_of l.fn.lanes.items;
  room : vec_len l.nodes + length l.lanes.items ≤ vec_capacity l.nodes;
}

abbrev pub decreases-loop-lanes : goal.decreases-loop-lanes
decreases-loop-lanes g l = length l.lanes.items
