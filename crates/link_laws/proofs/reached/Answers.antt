use Rattle.link_order.specs.NodeKind.{kind_of}
use Rattle.link_laws.proofs.Reaching.{reaches_counts, reaches_cut}
use Rattle.link_laws.proofs.reached.Goals as goal

pub returns-clause-counts : goal.returns-clause-counts
returns-clause-counts g c =
    reaches_counts (kind_of g.N.Node.clock g.N.Node.was g.N.Node.next) (record {
      rises = g.met.N.Node.rises;
      short = g.met.N.Node.short;
      moves = g.met.N.Node.moves;
      bears = g.met.N.Node.bears;
      fits = g.met.N.Node.fits;
    })

pub returns-clause-cuts : goal.returns-clause-cuts
returns-clause-cuts g c =
    reaches_cut (kind_of g.N.Node.clock g.N.Node.was g.N.Node.next) (record {
      rises = g.met.N.Node.rises;
      short = g.met.N.Node.short;
      moves = g.met.N.Node.moves;
      bears = g.met.N.Node.bears;
      fits = g.met.N.Node.fits;
    })
