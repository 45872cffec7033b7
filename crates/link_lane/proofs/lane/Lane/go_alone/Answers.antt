use Rattle.std.specs.Prelude.{Option}
use Rattle.std.proofs.Common.{ℕ, suc, ◌≡◌, ◌+◌, ◌<◌, refl, sym, ap, subst, ◌∙◌}
use Rattle.link_node.specs.declared.signal.Signal.{Signal}
use Rattle.link_order.specs.NodeKind.{NodeKind, IsLawful, kind_of}
use Rattle.link_table.specs.declared.key.Key.{Key}
use Rattle.link_table.specs.Text.{script_of}
use Rattle.link_table.specs.Seated.{SeatState}
use Rattle.link_lane.specs.Following.{LaneState}
use Rattle.link_lane.specs.Pausing.{BeginsBelow}
use Rattle.link_lane.proofs.Stepping.{goes_on_alone, own_key, told_next, publish_next, published, stepped_lane}
use Rattle.link_lane.proofs.lane.Lane.go_alone.Goals as goal

pub tell-requires-clause-next : goal.tell-requires-clause-next
tell-requires-clause-next g c =
    let kind : NodeKind g.N.Node.Record = kind_of g.N.Node.clock g.N.Node.was g.N.Node.next in
    let law : IsLawful kind = record {
      rises = g.met.N.Node.rises;
      short = g.met.N.Node.short;
      moves = g.met.N.Node.moves;
      bears = g.met.N.Node.bears;
      fits = g.met.N.Node.fits;
    } in
    let go =
    goes_on_alone kind law g.N.Node.plain g.N.Node.bound c.self.inside c.self.invariant c.args.self.now c.args.end
    c.self.view_is c.requires.limit c.requires.ahead c.requires.alone (g.N.Node.plain c.go_alone-signal.new.self)
    c.go_alone-signal.result c.go_alone-signal.ensures.alone
    (c.go_alone-signal.ensures.rises (subst (λ (z : LaneState g.row.N.Denot). g.N.Node.clock (g.N.Node.plain z.node)
    < c.args.end) (sym c.self.view_is) c.requires.some)) in
    let made : g.N.Node.Record × Option Signal
    = (g.N.Node.plain c.go_alone-signal.new.self, c.go_alone-signal.result) in
    told_next kind g.N.Node.plain g.N.Node.bound c.self.inside c.self.invariant c.args.end go.0 made
    c.self.inside.inbox.waits go.1 c.go_alone-signal.result refl

pub publish-requires-clause-next : goal.publish-requires-clause-next
publish-requires-clause-next g c =
    let kind : NodeKind g.N.Node.Record = kind_of g.N.Node.clock g.N.Node.was g.N.Node.next in
    let law : IsLawful kind = record {
      rises = g.met.N.Node.rises;
      short = g.met.N.Node.short;
      moves = g.met.N.Node.moves;
      bears = g.met.N.Node.bears;
      fits = g.met.N.Node.fits;
    } in
    let go =
    goes_on_alone kind law g.N.Node.plain g.N.Node.bound c.self.inside c.self.invariant c.args.self.now c.args.end
    c.self.view_is c.requires.limit c.requires.ahead c.requires.alone (g.N.Node.plain c.go_alone-signal.new.self)
    c.go_alone-signal.result c.go_alone-signal.ensures.alone
    (c.go_alone-signal.ensures.rises (subst (λ (z : LaneState g.row.N.Denot). g.N.Node.clock (g.N.Node.plain z.node)
    < c.args.end) (sym c.self.view_is) c.requires.some)) in
    let made : g.N.Node.Record × Option Signal
    = (g.N.Node.plain c.go_alone-signal.new.self, c.go_alone-signal.result) in
    publish_next kind g.N.Node.plain g.N.Node.bound c.self.inside c.self.invariant c.args.end go.0 made
    c.self.inside.inbox.waits go.1 c.go_alone-signal.result refl c.tell.new.seat c.tell.ensures c.clock.result
    c.clock.ensures.value

pub invariant_of-self : goal.invariant_of-self
invariant_of-self g c =
    let kind : NodeKind g.N.Node.Record = kind_of g.N.Node.clock g.N.Node.was g.N.Node.next in
    let law : IsLawful kind = record {
      rises = g.met.N.Node.rises;
      short = g.met.N.Node.short;
      moves = g.met.N.Node.moves;
      bears = g.met.N.Node.bears;
      fits = g.met.N.Node.fits;
    } in
    let go =
    goes_on_alone kind law g.N.Node.plain g.N.Node.bound c.self.inside c.self.invariant c.args.self.now c.args.end
    c.self.view_is c.requires.limit c.requires.ahead c.requires.alone (g.N.Node.plain c.go_alone-signal.new.self)
    c.go_alone-signal.result c.go_alone-signal.ensures.alone
    (c.go_alone-signal.ensures.rises (subst (λ (z : LaneState g.row.N.Denot). g.N.Node.clock (g.N.Node.plain z.node)
    < c.args.end) (sym c.self.view_is) c.requires.some)) in
    let made : g.N.Node.Record × Option Signal
    = (g.N.Node.plain c.go_alone-signal.new.self, c.go_alone-signal.result) in
    stepped_lane kind law g.N.Node.plain g.N.Node.bound c.self.inside c.self.invariant c.args.end go.0 made
    c.self.inside.inbox go.1 c.go_alone-signal.new.self refl c.go_alone-signal.ensures.limit c.publish.new.seat
    (published kind g.N.Node.plain g.N.Node.bound c.self.inside c.self.invariant c.args.end go.0 made
    c.self.inside.inbox.waits go.1 c.go_alone-signal.result refl c.clock.result c.clock.ensures.value c.tell.new.seat
    c.publish.new.seat c.tell.ensures c.publish.ensures.seat
    (c.publish.ensures.step c.self.invariant.key
    (ap (λ (z : SeatState (Key g.row.N.Denot)). z.key) c.tell.ensures ∙ c.self.invariant.follows.key_is)))

pub returns-clause-began : goal.returns-clause-began
returns-clause-began g c key keys k first less =
    let kind : NodeKind g.N.Node.Record = kind_of g.N.Node.clock g.N.Node.was g.N.Node.next in
    let law : IsLawful kind = record {
      rises = g.met.N.Node.rises;
      short = g.met.N.Node.short;
      moves = g.met.N.Node.moves;
      bears = g.met.N.Node.bears;
      fits = g.met.N.Node.fits;
    } in
    let go =
    goes_on_alone kind law g.N.Node.plain g.N.Node.bound c.self.inside c.self.invariant c.args.self.now c.args.end
    c.self.view_is c.requires.limit c.requires.ahead c.requires.alone (g.N.Node.plain c.go_alone-signal.new.self)
    c.go_alone-signal.result c.go_alone-signal.ensures.alone
    (c.go_alone-signal.ensures.rises (subst (λ (z : LaneState g.row.N.Denot). g.N.Node.clock (g.N.Node.plain z.node)
    < c.args.end) (sym c.self.view_is) c.requires.some)) in
    let made : g.N.Node.Record × Option Signal
    = (g.N.Node.plain c.go_alone-signal.new.self, c.go_alone-signal.result) in
    let seat_is = published kind g.N.Node.plain g.N.Node.bound c.self.inside c.self.invariant c.args.end go.0 made
    c.self.inside.inbox.waits go.1 c.go_alone-signal.result refl c.clock.result c.clock.ensures.value c.tell.new.seat
    c.publish.new.seat c.tell.ensures c.publish.ensures.seat
    (c.publish.ensures.step c.self.invariant.key
    (ap (λ (z : SeatState (Key g.row.N.Denot)). z.key) c.tell.ensures ∙ c.self.invariant.follows.key_is)) in
    let steps : c.publish.new.seat.made.steps ≡ suc (c.self.inside.seat.made.steps + go.0)
    = ap (λ (z : SeatState (Key g.row.N.Denot)). z.made.steps) seat_is in
    let own : c.self.invariant.key ≡ key
    = own_key kind g.N.Node.plain g.N.Node.bound c.self.inside c.self.invariant key
    (ap (λ (z : LaneState g.row.N.Denot). z.seat.key) c.self.view_is ∙ keys) in
    let below : BeginsBelow (script_of kind g.N.Node.plain key) c.args.end c.self.inside.seat.player
    c.self.inside.seat.made.steps c.publish.new.seat.made.steps
    = subst (λ (n : ℕ). BeginsBelow (script_of kind g.N.Node.plain key) c.args.end c.self.inside.seat.player
    c.self.inside.seat.made.steps n) (sym steps)
    (subst (λ (z : Key g.row.N.Denot). BeginsBelow (script_of kind g.N.Node.plain z) c.args.end
    c.self.inside.seat.player c.self.inside.seat.made.steps (suc (c.self.inside.seat.made.steps + go.0))) own
    go.1.below) in
    subst (λ (z : LaneState g.row.N.Denot). BeginsBelow (script_of kind g.N.Node.plain key) c.args.end z.seat.player
    z.seat.made.steps c.publish.new.seat.made.steps) c.self.view_is below k first less
