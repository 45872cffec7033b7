use Rattle.std.specs.Prelude.{All}
use Rattle.link_lane_tests.specs.Going.{MayGo}
use Rattle.link_lane_tests.proofs.threads.advance_to_end.Given as goal

abbrev pub invariant-loop-round : goal.invariant-loop-round
invariant-loop-round g l = record { may_go : All (MayGo l.shared l.until) l.lanes }
