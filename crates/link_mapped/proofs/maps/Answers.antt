use Rattle.link_order.specs.NodeKind.{kind_of}
use Rattle.link_mapped.proofs.Running.{maps-runs}
use Rattle.link_mapped.proofs.maps.Goals as goal

pub returns : goal.returns
returns g c = maps-runs (kind_of g.N.Node.clock g.N.Node.was g.N.Node.next)
