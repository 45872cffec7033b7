use Rattle.link_lane.specs.Pausing.{IsFetching}
use Rattle.link_lane.proofs.lane.Lane.hear.Given as goal

abbrev pub invariant-loop-index : goal.invariant-loop-index
invariant-loop-index g l = record {
  fetching : IsFetching l.fn.self l.self l.peer l.look.clock l.look.count l.index;
}
