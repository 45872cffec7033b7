use Rattle.std.proofs.Common.{◌≡◌, [], ◌∷◌}
use Rattle.link_order.specs.Cut.{hop}
use Rattle.link_table.specs.declared.key.Key.{Key}
use Rattle.link_lane.specs.Pausing.{HasHeard, IsNearest}
use Rattle.link_lane.proofs.lane.Lane.poll.Given as goal

abbrev pub invariant-loop-turn : goal.invariant-loop-turn
invariant-loop-turn g l = record {
  heard : HasHeard l.turn l.fn.self.seat.players l.fn.self l.self;
  nearest : (key : Key g.row.N.Denot) → l.fn.self.seat.key ≡ key ∷ []
      → IsNearest (hop key.cut.value) l.self l.self.seat.players l.nearest;
}
