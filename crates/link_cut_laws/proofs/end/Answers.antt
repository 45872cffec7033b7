use Rattle.link_order.specs.NodeKind.{kind_of}
use Rattle.link_cut_laws.proofs.Going.{ends-near, reaches-end}
use Rattle.link_cut_laws.proofs.end.Goals as goal

pub returns-clause-reached : goal.returns-clause-reached
returns-clause-reached g c =
    reaches-end (kind_of g.N.Node.clock g.N.Node.was g.N.Node.next) (record {
      rises = g.met.N.Node.rises;
      short = g.met.N.Node.short;
      moves = g.met.N.Node.moves;
      bears = g.met.N.Node.bears;
      fits = g.met.N.Node.fits;
    })

pub returns-clause-near : goal.returns-clause-near
returns-clause-near g c =
    ends-near (kind_of g.N.Node.clock g.N.Node.was g.N.Node.next) (record {
      rises = g.met.N.Node.rises;
      short = g.met.N.Node.short;
      moves = g.met.N.Node.moves;
      bears = g.met.N.Node.bears;
      fits = g.met.N.Node.fits;
    })
