use Rattle.std.specs.Prelude.{slice_index}
use Rattle.std.proofs.Common.{ℕ, ◌+◌, ◌<◌, ◌≢◌, arith, inl, inr, refl, sym, ap, subst}
use Rattle.link_order.specs.NodeKind.{NodeKind, IsLawful, kind_of}
use Rattle.link_rule.specs.Rule.{peer_at}
use Rattle.link_rule.specs.Steps.{with_peer, fetched}
use Rattle.link_lane.specs.Following.{LaneState}
use Rattle.link_lane.proofs.Lanes.{is_next, delay_of, fetched_lane, few_taken, few_wait}
use Rattle.link_lane.proofs.lane.Lane.fetch_one.Goals as goal

pub overflow_add-self : goal.overflow_add-self
overflow_add-self g c =
    let kind : NodeKind g.N.Node.Record = kind_of g.N.Node.clock g.N.Node.was g.N.Node.next in
    let few = few_taken kind g.N.Node.plain g.N.Node.bound c.self.inside c.self.invariant c.args.peer
    (subst (λ (z : LaneState g.row.N.Denot). c.args.peer < z.seat.players) (sym c.self.view_is) c.requires.below)
    (subst (λ (z : LaneState g.row.N.Denot). c.args.peer ≢ z.seat.player) (sym c.self.view_is) c.requires.other) in
    omega (arith, few)

pub put-requires : goal.put-requires
put-requires g c =
    let kind : NodeKind g.N.Node.Record = kind_of g.N.Node.clock g.N.Node.was g.N.Node.next in
    let law : IsLawful kind = record {
      rises = g.met.N.Node.rises;
      short = g.met.N.Node.short;
      moves = g.met.N.Node.moves;
      bears = g.met.N.Node.bears;
      fits = g.met.N.Node.fits;
    } in
    omega (arith, few_wait kind law g.N.Node.plain g.N.Node.bound c.self.inside c.self.invariant)

pub invariant_of-self : goal.invariant_of-self
invariant_of-self g c =
    let kind : NodeKind g.N.Node.Record = kind_of g.N.Node.clock g.N.Node.was g.N.Node.next in
    let key = c.self.invariant.key in
    let next = is_next kind g.N.Node.plain g.N.Node.bound c.self.inside c.self.invariant c.args.peer
    c.fetch-signal.result c.args.self.now c.self.view_is c.requires.below c.requires.other c.requires.left
    (c.fetch-signal.ensures.signal key c.self.invariant.follows.key_is) in
    let delay = delay_of kind g.N.Node.plain g.N.Node.bound c.self.inside c.self.invariant c.args.peer c.delay.result
    (with_peer c.self.inside.seat.made c.args.peer (fetched (peer_at c.self.inside.seat.made.peers c.args.peer)))
    c.fetch-signal.new.seat c.fetch-signal.ensures.seat c.delay.ensures.value in
    fetched_lane kind g.N.Node.plain g.N.Node.bound c.self.inside c.self.invariant c.args.peer
    (c.fetch-signal.result.clock + c.delay.result) (slice_index c.self.inside.taken c.args.peer + 1)
    c.fetch-signal.result c.fetch-signal.new.seat c.put.new.self next
    c.fetch-signal.ensures.seat
    (ap (λ (n : ℕ). c.fetch-signal.result.clock + n) delay) refl
    (inl (omega (arith, c.was.ensures), c.put.ensures))

pub invariant_of-self-else-arrival-was : goal.invariant_of-self-else-arrival-was
invariant_of-self-else-arrival-was g c =
    let kind : NodeKind g.N.Node.Record = kind_of g.N.Node.clock g.N.Node.was g.N.Node.next in
    let key = c.self.invariant.key in
    let next = is_next kind g.N.Node.plain g.N.Node.bound c.self.inside c.self.invariant c.args.peer
    c.fetch-signal.result c.args.self.now c.self.view_is c.requires.below c.requires.other c.requires.left
    (c.fetch-signal.ensures.signal key c.self.invariant.follows.key_is) in
    let delay = delay_of kind g.N.Node.plain g.N.Node.bound c.self.inside c.self.invariant c.args.peer c.delay.result
    (with_peer c.self.inside.seat.made c.args.peer (fetched (peer_at c.self.inside.seat.made.peers c.args.peer)))
    c.fetch-signal.new.seat c.fetch-signal.ensures.seat c.delay.ensures.value in
    fetched_lane kind g.N.Node.plain g.N.Node.bound c.self.inside c.self.invariant c.args.peer
    (c.fetch-signal.result.clock + c.delay.result) (slice_index c.self.inside.taken c.args.peer + 1)
    c.fetch-signal.result c.fetch-signal.new.seat c.self.inside.inbox next
    c.fetch-signal.ensures.seat
    (ap (λ (n : ℕ). c.fetch-signal.result.clock + n) delay) refl
    (inr (omega (arith, c.was.ensures), refl))
