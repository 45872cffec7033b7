use Rattle.link_order.specs.NodeKind.{kind_of}
use Rattle.link_cut_laws.proofs.Turning.{runs-cable}
use Rattle.link_cut_laws.proofs.cable.Goals as goal

pub returns : goal.returns
returns g c = runs-cable (kind_of g.N.Node.clock g.N.Node.was g.N.Node.next)
