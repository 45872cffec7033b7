use Rattle.std.specs.Prelude.{length}
use Rattle.std.proofs.Common.{◌≤◌, [], arith, refl}
use Rattle.link_order.specs.NodeKind.{NodeKind, IsLawful, kind_of}
use Rattle.link_lane.proofs.Lanes.{opened, few_wait}
use Rattle.link_lane.proofs.lane.Lane.new.Goals as goal

pub new-requires : goal.new-requires
new-requires g c =
    let kind : NodeKind g.N.Node.Record = kind_of g.N.Node.clock g.N.Node.was g.N.Node.next in
    let law : IsLawful kind = record {
      rises = g.met.N.Node.rises;
      short = g.met.N.Node.short;
      moves = g.met.N.Node.moves;
      bears = g.met.N.Node.bears;
      fits = g.met.N.Node.fits;
    } in
    let few : length c.args.opening.now ≤ 10236
    = few_wait kind law g.N.Node.plain g.N.Node.bound _
    (opened kind law g.N.Node.plain g.N.Node.bound c.args.node c.args.seat c.args.opening.now c.requires
    (record { waits = c.args.opening.now; due = [] }) refl (record { before = []; value = tt; after = [] })) in
    omega arith

pub invariant_of-result : goal.invariant_of-result
invariant_of-result g c =
    let kind : NodeKind g.N.Node.Record = kind_of g.N.Node.clock g.N.Node.was g.N.Node.next in
    let law : IsLawful kind = record {
      rises = g.met.N.Node.rises;
      short = g.met.N.Node.short;
      moves = g.met.N.Node.moves;
      bears = g.met.N.Node.bears;
      fits = g.met.N.Node.fits;
    } in
    opened kind law g.N.Node.plain g.N.Node.bound c.args.node c.args.seat c.args.opening.now c.requires c.in-Ok.inbox
    c.in-Ok.ensures _
