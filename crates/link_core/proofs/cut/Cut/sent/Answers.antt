use Rattle.link_order.specs.NodeKind.{kind_of}
use Rattle.link_core.proofs.Keeping.{kept_few}
use Rattle.link_core.proofs.cut.Cut.sent.Goals as goal

pub returns-clause-few : goal.returns-clause-few
returns-clause-few g c =
    rw c.as_slice.ensures.value
    (kept_few (kind_of g.N.Node.clock g.N.Node.was g.N.Node.next) g.N.Node.plain _ _ _ c.self.invariant)
