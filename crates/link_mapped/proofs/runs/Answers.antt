use Rattle.link_order.specs.NodeKind.{kind_of}
use Rattle.link_mapped.proofs.Running.{runs-alike, runs-live-alike}
use Rattle.link_mapped.proofs.runs.Goals as goal

pub returns-clause-all : goal.returns-clause-all
returns-clause-all g c = runs-alike (kind_of g.N.Node.clock g.N.Node.was g.N.Node.next)

pub returns-clause-live : goal.returns-clause-live
returns-clause-live g c =
    runs-live-alike (kind_of g.N.Node.clock g.N.Node.was g.N.Node.next) (record {
      rises = g.met.N.Node.rises;
      short = g.met.N.Node.short;
      moves = g.met.N.Node.moves;
      bears = g.met.N.Node.bears;
      fits = g.met.N.Node.fits;
    })
