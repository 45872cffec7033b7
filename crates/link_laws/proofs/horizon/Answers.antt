use Rattle.link_order.specs.NodeKind.{kind_of}
use Rattle.link_laws.proofs.Horizons.{looks_ahead, furthest_behind}
use Rattle.link_laws.proofs.horizon.Goals as goal

pub returns-clause-no_signal_in_the_past : goal.returns-clause-no_signal_in_the_past
returns-clause-no_signal_in_the_past g c =
    looks_ahead (kind_of g.N.Node.clock g.N.Node.was g.N.Node.next) (record {
      rises = g.met.N.Node.rises;
      short = g.met.N.Node.short;
      moves = g.met.N.Node.moves;
      bears = g.met.N.Node.bears;
      fits = g.met.N.Node.fits;
    })

pub returns-clause-furthest_behind_may_step : goal.returns-clause-furthest_behind_may_step
returns-clause-furthest_behind_may_step g c =
    furthest_behind (kind_of g.N.Node.clock g.N.Node.was g.N.Node.next) (record {
      rises = g.met.N.Node.rises;
      short = g.met.N.Node.short;
      moves = g.met.N.Node.moves;
      bears = g.met.N.Node.bears;
      fits = g.met.N.Node.fits;
    })
