use Rattle.std.proofs.Common.{◌≡◌}
use Rattle.std.specs.Prelude.{map}
use Rattle.link_order.specs.NodeKind.{kind_of}
use Rattle.link_order.specs.Cut.{plain_cut, live}
use Rattle.link_order.specs.GlobalOrder.{run, cycles_left}
use Rattle.link_core.proofs.cut.Cut.run_serial.Given as goal

abbrev pub invariant-loop-self : goal.invariant-loop-self
invariant-loop-self g l = record {
  same_end : live (kind_of g.N.Node.clock g.N.Node.was g.N.Node.next)
      (run (kind_of g.N.Node.clock g.N.Node.was g.N.Node.next) (plain_cut g.N.Node.plain l.self) l.until)
      ≡ live (kind_of g.N.Node.clock g.N.Node.was g.N.Node.next)
      (run (kind_of g.N.Node.clock g.N.Node.was g.N.Node.next) (plain_cut g.N.Node.plain l.fn.self) l.until);
  limits : map g.N.Node.bound l.self.consoles ≡ map g.N.Node.bound l.fn.self.consoles;
}

abbrev pub decreases-loop-self : goal.decreases-loop-self
decreases-loop-self g l = cycles_left (kind_of g.N.Node.clock g.N.Node.was g.N.Node.next)
    (plain_cut g.N.Node.plain l.self)
    l.until
