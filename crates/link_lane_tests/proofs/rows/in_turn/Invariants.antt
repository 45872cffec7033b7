use Rattle.link_lane_tests.specs.Going.{MayGo}
use Rattle.link_lane_tests.proofs.rows.in_turn.Given as goal

abbrev pub invariant-loop-turn : goal.invariant-loop-turn
invariant-loop-turn l = record {
  first : MayGo l.shared 4096 l.first;
  second : MayGo l.shared 4096 l.second;
}
