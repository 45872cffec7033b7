use Rattle.std.proofs.Common.{◌≤◌, arith}
use Rattle.link_order.specs.NodeKind.{NodeKind, IsLawful, kind_of}
use Rattle.link_order.specs.Cut.{plain_cut}
use Rattle.link_run.proofs.Stretches.{stretch}
use Rattle.link_run.proofs.run.go_serial.Goals as goal

pub returns-clause-same_end : goal.returns-clause-same_end
returns-clause-same_end g c =
    let kind : NodeKind g.N.Node.Record = kind_of g.N.Node.clock g.N.Node.was g.N.Node.next in
    let law : IsLawful kind = record {
      rises = g.met.N.Node.rises;
      short = g.met.N.Node.short;
      moves = g.met.N.Node.moves;
      bears = g.met.N.Node.bears;
      fits = g.met.N.Node.fits;
    } in
    let le : c.min-end.result ≤ c.args.until = omega (arith, c.min-end.ensures) in
    let s = stretch kind law (plain_cut g.N.Node.plain c.args.cut.now) (plain_cut g.N.Node.plain c.run_serial.new.self)
    c.min-end.result c.args.until le c.least_clock.ensures.cable c.least_clock.ensures.sound c.run_serial.ensures.run in
    s.same_end

pub returns-clause-no_more : goal.returns-clause-no_more
returns-clause-no_more g c =
    let kind : NodeKind g.N.Node.Record = kind_of g.N.Node.clock g.N.Node.was g.N.Node.next in
    let law : IsLawful kind = record {
      rises = g.met.N.Node.rises;
      short = g.met.N.Node.short;
      moves = g.met.N.Node.moves;
      bears = g.met.N.Node.bears;
      fits = g.met.N.Node.fits;
    } in
    let le : c.min-end.result ≤ c.args.until = omega (arith, c.min-end.ensures) in
    let s = stretch kind law (plain_cut g.N.Node.plain c.args.cut.now) (plain_cut g.N.Node.plain c.run_serial.new.self)
    c.min-end.result c.args.until le c.least_clock.ensures.cable c.least_clock.ensures.sound c.run_serial.ensures.run in
    s.no_more
