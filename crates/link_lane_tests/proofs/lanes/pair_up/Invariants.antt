use Rattle.std.specs.Prelude.{All, length, drop}
use Rattle.std.proofs.Common.{◌≡◌}
use Rattle.link_lane_tests.specs.Going.{MayGo}
use Rattle.link_lane_tests.proofs.lanes.pair_up.Given as goal

abbrev pub invariant-loop-player : goal.invariant-loop-player
invariant-loop-player g l = record {
  nodes : l.nodes.items ≡ drop l.player l.fn.cut.consoles;
  seats : l.seats.items ≡ drop l.player l.fn.seats.items;
  made : length l.lanes.items ≡ l.player;
  may_go : All (MayGo l.shared l.until) l.lanes.items;
}
