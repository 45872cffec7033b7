use Rattle.std.proofs.Common.{ℕ, ◌≡◌, ◌+◌, ◌≤◌}
use Rattle.std.specs.Prelude.{List, [], ◌∷◌, ◌++◌, length, map, Some, slice_get}
use Rattle.std.specs.Vec.{vec_len, vec_capacity}
use Rattle.link_order.specs.NodeKind.{kind_of}
use Rattle.link_table.specs.declared.key.Key.{Key}
use Rattle.link_lane.specs.Following.{LaneState, Follows}
use Rattle.link_run.specs.Rounds.{node_of, seat_of_lane, waits_of}
use Rattle.link_run.proofs.round.part_all.Given as goal

abbrev pub invariant-loop-lanes : goal.invariant-loop-lanes
invariant-loop-lanes g l = record {
  nodes : l.nodes.items ++ map node_of l.lanes.items ≡ l.fn.nodes.items ++ map node_of l.fn.lanes.items;
  seats : l.seats.items ++ map seat_of_lane l.lanes.items ≡ l.fn.seats.items ++ map seat_of_lane l.fn.lanes.items;
  waits : map (λ list. list.items) l.waits.items ++ map waits_of l.lanes.items
      ≡ map (λ list. list.items) l.fn.waits.items ++ map waits_of l.fn.lanes.items;
  room_of_nodes : vec_len l.nodes + length l.lanes.items ≤ vec_capacity l.nodes;
  room_of_seats : vec_len l.seats + length l.lanes.items ≤ vec_capacity l.seats;
  room_of_waits : vec_len l.waits + length l.lanes.items ≤ vec_capacity l.waits;
  done : List (LaneState g.row.N.Denot);
  split : l.fn.lanes.items ≡ done ++ l.lanes.items;
  followed : (i : ℕ) (lane : LaneState g.row.N.Denot) (key : Key g.row.N.Denot) → slice_get done i ≡ Some lane
      → lane.seat.key ≡ key ∷ [] → Follows (kind_of g.N.Node.clock g.N.Node.was g.N.Node.next) g.N.Node.plain key lane;
}

abbrev pub decreases-loop-lanes : goal.decreases-loop-lanes
decreases-loop-lanes g l = length l.lanes.items
