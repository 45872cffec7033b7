use Rattle.std.specs.Prelude.{List, length}
use Rattle.std.proofs.Common.{◌<◌, arith, ap, ◌∙◌, get_or}
use Rattle.link_order.specs.NodeKind.{NodeKind, kind_of}
use Rattle.link_table.specs.declared.key.Key.{Key}
use Rattle.link_table.specs.Seated.{SeatState}
use Rattle.link_lane_tests.specs.Going.{MayGo}
use Rattle.link_lane_tests.proofs.Openings.{are_paired, left_on, kept_on, counted_on}
use Rattle.link_lane_tests.proofs.lanes.pair_up.Goals as goal

pub new-requires : goal.new-requires
new-requires g c =
    let kind : NodeKind g.N.Node.Record = kind_of g.N.Node.clock g.N.Node.was g.N.Node.next in
    let below : c.loop-player.player < length c.args.cut.consoles
    = omega (arith, ap length c.nodes-count.ensures.value) in
    (are_paired kind g.N.Node.plain g.N.Node.bound c.args.cut c.args.shared.now c.args.seats.items c.args.until
    c.loop-player.player c.remove-node.result c.remove-seat.result c.requires.begun c.nodes-count.ensures.cable
    c.nodes-count.ensures.sound c.requires.empty c.requires.limits below
    (c.remove-node.ensures.value
    ∙ ap (λ (l : List g.row.N.Denot). get_or l 0 c.remove-node.result) c.loop-player.invariant.nodes)
    (c.remove-seat.ensures.value
    ∙ ap (λ (l : List (SeatState (Key g.row.N.Denot))). get_or l 0 c.remove-seat.result)
    c.loop-player.invariant.seats)).opens

pub loop-player-preserved : goal.loop-player-preserved
loop-player-preserved g c =
    let kind : NodeKind g.N.Node.Record = kind_of g.N.Node.clock g.N.Node.was g.N.Node.next in
    let below : c.loop-player.player < length c.args.cut.consoles
    = omega (arith, ap length c.nodes-count.ensures.value) in
    let p = are_paired kind g.N.Node.plain g.N.Node.bound c.args.cut c.args.shared.now c.args.seats.items c.args.until
    c.loop-player.player c.remove-node.result c.remove-seat.result c.requires.begun c.nodes-count.ensures.cable
    c.nodes-count.ensures.sound c.requires.empty c.requires.limits below
    (c.remove-node.ensures.value
    ∙ ap (λ (l : List g.row.N.Denot). get_or l 0 c.remove-node.result) c.loop-player.invariant.nodes)
    (c.remove-seat.ensures.value
    ∙ ap (λ (l : List (SeatState (Key g.row.N.Denot))). get_or l 0 c.remove-seat.result)
    c.loop-player.invariant.seats) in
    record {
      nodes =
          left_on c.args.cut.consoles c.loop-player.nodes.items c.remove-node.new.self.items c.loop-player.player
          c.loop-player.invariant.nodes c.remove-node.ensures.items;
      seats =
          left_on c.args.seats.items c.loop-player.seats.items c.remove-seat.new.self.items c.loop-player.player
          c.loop-player.invariant.seats c.remove-seat.ensures.items;
      made =
          counted_on c.loop-player.lanes.items c.keep.new.lanes.items c.in-Ok.lane c.loop-player.player
          c.in_ok-keep.ensures c.loop-player.invariant.made;
      may_go =
          kept_on (MayGo c.args.shared.now c.args.until) c.loop-player.lanes.items c.keep.new.lanes.items c.in-Ok.lane
          c.in_ok-keep.ensures c.loop-player.invariant.may_go (p.may_go c.in-Ok.lane c.in-Ok.ensures.made.1);
    }
