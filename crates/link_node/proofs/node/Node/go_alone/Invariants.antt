use Rattle.std.proofs.Common.{◌≡◌, ◌≤◌, ◌-◌}
use Rattle.std.specs.Prelude.{None}
use Rattle.link_node.specs.Alone.{StepsAlone}
use Rattle.link_node.proofs.node.Node.go_alone.Given as goal

abbrev pub invariant-loop-self : goal.invariant-loop-self
invariant-loop-self g l = record {
  alone : StepsAlone g.Self.Node.clock g.Self.Node.next l.end (g.Self.Node.plain l.fn.self)
      (g.Self.Node.plain l.self) None;
  later : g.Self.Node.clock (g.Self.Node.plain l.fn.self) ≤ g.Self.Node.clock (g.Self.Node.plain l.self);
  limit : g.Self.Node.bound l.self ≡ g.Self.Node.bound l.fn.self;
}

abbrev pub decreases-loop-self : goal.decreases-loop-self
decreases-loop-self g l = l.end - g.Self.Node.clock (g.Self.Node.plain l.self)
