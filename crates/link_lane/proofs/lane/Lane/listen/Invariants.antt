use Rattle.std.proofs.Common.{◌≡◌, [], ◌∷◌}
use Rattle.link_order.specs.Cut.{hop}
use Rattle.link_table.specs.declared.key.Key.{Key}
use Rattle.link_lane.specs.Pausing.{HasHeard, IsNearest}
use Rattle.link_lane.proofs.lane.Lane.listen.Given as goal

abbrev pub invariant-loop-peer : goal.invariant-loop-peer
invariant-loop-peer g l = record {
  heard : HasHeard 1 l.peer l.fn.self l.self;
  nearest : (key : Key g.row.N.Denot) → l.fn.self.seat.key ≡ key ∷ []
      → IsNearest (hop key.cut.value) l.self l.peer l.nearest;
}
