use Rattle.std.proofs.Common.{◌≡◌, ◌-◌, ◌≤◌, [], ◌∷◌}
use Rattle.link_order.specs.NodeKind.{kind_of}
use Rattle.link_table.specs.declared.key.Key.{Key}
use Rattle.link_table.specs.Text.{script_of}
use Rattle.link_table.specs.Seated.{with_made}
use Rattle.link_lane.specs.Pausing.{BeginsBelow}
use Rattle.link_lane.proofs.lane.Lane.advance.Given as goal

abbrev pub invariant-loop-self : goal.invariant-loop-self
invariant-loop-self g l = record {
  seat : l.self.seat ≡ with_made l.fn.self.seat l.self.seat.made;
  limit : g.N.Node.bound l.self.node ≡ g.N.Node.bound l.fn.self.node;
  grows : l.fn.self.seat.made.steps ≤ l.self.seat.made.steps;
  began : (key : Key g.row.N.Denot) → l.fn.self.seat.key ≡ key ∷ []
      → BeginsBelow (script_of (kind_of g.N.Node.clock g.N.Node.was g.N.Node.next) g.N.Node.plain key) l.until
      l.fn.self.seat.player l.fn.self.seat.made.steps l.self.seat.made.steps;
  still : l.self.seat.made.steps ≡ l.fn.self.seat.made.steps → l.self ≡ l.fn.self;
}

abbrev pub decreases-loop-self : goal.decreases-loop-self
decreases-loop-self g l = l.until - g.N.Node.clock (g.N.Node.plain l.self.node)
