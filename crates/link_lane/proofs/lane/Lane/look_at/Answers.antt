use Rattle.std.proofs.Common.{◌<◌, ◌≢◌, sym, subst}
use Rattle.link_order.specs.NodeKind.{NodeKind, IsLawful, kind_of}
use Rattle.link_lane.specs.Following.{LaneState}
use Rattle.link_lane.proofs.Lanes.{looked_lane}
use Rattle.link_lane.proofs.lane.Lane.look_at.Goals as goal

pub invariant_of-self : goal.invariant_of-self
invariant_of-self g c =
    let kind : NodeKind g.N.Node.Record = kind_of g.N.Node.clock g.N.Node.was g.N.Node.next in
    let law : IsLawful kind = record {
      rises = g.met.N.Node.rises;
      short = g.met.N.Node.short;
      moves = g.met.N.Node.moves;
      bears = g.met.N.Node.bears;
      fits = g.met.N.Node.fits;
    } in
    looked_lane kind law g.N.Node.plain g.N.Node.bound c.self.inside c.self.invariant c.args.peer c.look.result.clock
    c.look.result.count c.look.new.seat
    (subst (λ (z : LaneState g.row.N.Denot). c.args.peer < z.seat.players) (sym c.self.view_is) c.requires.below)
    (subst (λ (z : LaneState g.row.N.Denot). c.args.peer ≢ z.seat.player) (sym c.self.view_is) c.requires.other)
    c.look.ensures.seat
    (c.look.ensures.look c.self.invariant.key c.self.invariant.follows.key_is)
