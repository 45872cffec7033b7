use Rattle.link_order.specs.NodeKind.{kind_of}
use Rattle.link_laws.proofs.Horizons.{few_unread, few_live_of}
use Rattle.link_laws.proofs.unread.Goals as goal

pub returns-clause-unseen : goal.returns-clause-unseen
returns-clause-unseen g c =
    few_unread (kind_of g.N.Node.clock g.N.Node.was g.N.Node.next) (record {
      rises = g.met.N.Node.rises;
      short = g.met.N.Node.short;
      moves = g.met.N.Node.moves;
      bears = g.met.N.Node.bears;
      fits = g.met.N.Node.fits;
    })

pub returns-clause-live : goal.returns-clause-live
returns-clause-live g c =
    few_live_of (kind_of g.N.Node.clock g.N.Node.was g.N.Node.next)
