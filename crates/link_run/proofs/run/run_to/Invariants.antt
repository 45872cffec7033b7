use Rattle.std.proofs.Common.{◌≡◌}
use Rattle.std.specs.Prelude.{map}
use Rattle.link_order.specs.NodeKind.{kind_of}
use Rattle.link_order.specs.Cut.{plain_cut, live}
use Rattle.link_order.specs.GlobalOrder.{run, cycles_left}
use Rattle.link_run.proofs.run.run_to.Given as goal

abbrev pub invariant-loop-alloc : goal.invariant-loop-alloc
invariant-loop-alloc g l = record {
  same_end : live (kind_of g.N.Node.clock g.N.Node.was g.N.Node.next)
      (run (kind_of g.N.Node.clock g.N.Node.was g.N.Node.next) (plain_cut g.N.Node.plain l.cut) l.until)
      ≡ live (kind_of g.N.Node.clock g.N.Node.was g.N.Node.next)
      (run (kind_of g.N.Node.clock g.N.Node.was g.N.Node.next) (plain_cut g.N.Node.plain l.fn.cut) l.until);
  limits : map g.N.Node.bound l.cut.consoles ≡ map g.N.Node.bound l.fn.cut.consoles;
}

abbrev pub decreases-loop-alloc : goal.decreases-loop-alloc
decreases-loop-alloc g l =
    cycles_left (kind_of g.N.Node.clock g.N.Node.was g.N.Node.next) (plain_cut g.N.Node.plain l.cut)
    l.until
