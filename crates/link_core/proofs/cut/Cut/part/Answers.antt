use Rattle.link_order.specs.NodeKind.{kind_of}
use Rattle.link_core.proofs.Keeping.{flight_from_kept}
use Rattle.link_core.proofs.cut.Cut.part.Goals as goal

pub invariant_of-result : goal.invariant_of-result
invariant_of-result g c =
    flight_from_kept (kind_of g.N.Node.clock g.N.Node.was g.N.Node.next) g.N.Node.plain _ _ _ c.self.invariant
