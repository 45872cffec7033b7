use Rattle.link_order.specs.NodeKind.{kind_of}
use Rattle.link_mapped.proofs.OneStep.{steps-alike}
use Rattle.link_mapped.proofs.steps.Goals as goal

pub returns : goal.returns
returns g c = steps-alike (kind_of g.N.Node.clock g.N.Node.was g.N.Node.next)
