use Rattle.link_order.specs.NodeKind.{kind_of}
use Rattle.link_mapped.proofs.Running.{are-alike}
use Rattle.link_mapped.proofs.alike.Goals as goal

pub returns : goal.returns
returns g c = are-alike (kind_of g.N.Node.clock g.N.Node.was g.N.Node.next)
