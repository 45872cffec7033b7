use Rattle.link_order.specs.NodeKind.{kind_of}
use Rattle.link_cut_laws.proofs.Going.{starts-whole}
use Rattle.link_cut_laws.proofs.start.Goals as goal

pub returns : goal.returns
returns g c = starts-whole (kind_of g.N.Node.clock g.N.Node.was g.N.Node.next)
