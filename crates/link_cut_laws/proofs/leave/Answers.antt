use Rattle.link_order.specs.NodeKind.{kind_of}
use Rattle.link_cut_laws.proofs.Going.{leaves-whole}
use Rattle.link_cut_laws.proofs.leave.Goals as goal

pub returns : goal.returns
returns g c =
    leaves-whole (kind_of g.N.Node.clock g.N.Node.was g.N.Node.next) (record {
      rises = g.met.N.Node.rises;
      short = g.met.N.Node.short;
      moves = g.met.N.Node.moves;
      bears = g.met.N.Node.bears;
      fits = g.met.N.Node.fits;
    })
