use Rattle.std.proofs.Common.{◌≡◌, ◌≤◌}
use Rattle.std.specs.Prelude.{◌++◌, length, map}
use Rattle.std.specs.Vec.{vec_capacity}
use Rattle.link_run.specs.Rounds.{node_of, seat_of_lane}
use Rattle.link_run.proofs.opening.open_lanes.Given as goal

abbrev pub invariant-loop-node : goal.invariant-loop-node
invariant-loop-node g l = record {
  nodes : l.nodes.items ++ map node_of l.lanes.items ≡ l.fn.nodes.items;
  seats : l.seats.items ++ map seat_of_lane l.lanes.items ≡ l.fn.seats.items;
  same : length l.seats.items ≡ length l.nodes.items;
  room : 4 ≤ vec_capacity l.lanes;
  room_of_nodes : length l.fn.nodes.items ≤ vec_capacity l.nodes;
  room_of_seats : length l.fn.nodes.items ≤ vec_capacity l.seats;
}

abbrev pub decreases-loop-node : goal.decreases-loop-node
decreases-loop-node g l = length l.nodes.items
