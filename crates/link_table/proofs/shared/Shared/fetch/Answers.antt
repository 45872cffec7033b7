use Rattle.std.specs.Prelude.{Option, IsSome, Some, slice_get}
use Rattle.std.proofs.Common.{◌≡◌, arith, refl, sym, ap, ◌∙◌, subst}
use Rattle.link_node.specs.declared.signal.Signal.{Signal}
use Rattle.link_order.specs.NodeKind.{NodeKind, kind_of}
use Rattle.link_rule.specs.declared.view.Progress.{Progress}
use Rattle.link_rule.specs.Rule.{peer_at}
use Rattle.link_rule.specs.Steps.{with_peer, fetched}
use Rattle.link_rule.proofs.Places.{in_ring}
use Rattle.link_script.specs.Script.{told}
use Rattle.link_table.specs.Text.{script_of}
use Rattle.link_table.specs.Seated.{with_made}
use Rattle.link_table.proofs.Seats.{seen_made, said, is_other, own_table, own_made}
use Rattle.link_table.proofs.Fetching.{is_next, may_head, may_body, has_fetched, fetched_seat}
use Rattle.link_table.proofs.shared.Shared.fetch.Goals as goal

pub load-head-requires : goal.load-head-requires
load-head-requires g c =
    let kind : NodeKind g.N.Node.Record = kind_of g.N.Node.clock g.N.Node.was g.N.Node.next in
    let other = is_other c.seat.inside c.args.seat.now c.args.peer c.seat.view_is c.requires.below c.requires.other in
    let next = is_next kind g.N.Node.plain c.seat.inside c.args.seat.now c.args.peer c.args.index c.seat.invariant
    c.seat.view_is c.requires.next c.requires.counted in
    let four = c.seat.invariant.sound.at_most_four in
    let players = c.seat.invariant.players_is in
    let words = c.self.invariant in
    let ring = in_ring c.args.peer c.args.index in (
      own_table c.seat.inside c.args.seat.now _ c.args.self.now c.seat.view_is c.self.view_is c.requires.table,
      omega (arith, other.below, four, players, words, ring.before, c.ring_place-place.ensures),
      may_head kind g.N.Node.plain c.self.inside.table.shared.key c.self.inside.table.shared.table_id.slots
          c.ring_place-place.result c.args.peer c.args.index c.seat.inside c.seat.invariant
          c.ring_place-place.ensures next,
    )

pub load-body-requires : goal.load-body-requires
load-body-requires g c =
    let kind : NodeKind g.N.Node.Record = kind_of g.N.Node.clock g.N.Node.was g.N.Node.next in
    let other = is_other c.seat.inside c.args.seat.now c.args.peer c.seat.view_is c.requires.below c.requires.other in
    let next = is_next kind g.N.Node.plain c.seat.inside c.args.seat.now c.args.peer c.args.index c.seat.invariant
    c.seat.view_is c.requires.next c.requires.counted in
    let four = c.seat.invariant.sound.at_most_four in
    let players = c.seat.invariant.players_is in
    let words = c.self.invariant in
    let ring = in_ring c.args.peer c.args.index in (
      c.load-head.ensures.0
          ∙ own_table c.seat.inside c.args.seat.now _ c.args.self.now c.seat.view_is c.self.view_is c.requires.table,
      omega (arith, other.below, four, players, words, ring.before, c.ring_place-place.ensures),
      may_body kind g.N.Node.plain c.self.inside.table.shared.key c.self.inside.table.shared.table_id.slots
          c.ring_place-place.result c.args.peer c.args.index c.seat.inside c.load-head.new.seat c.seat.invariant other
          c.ring_place-place.ensures next c.load-head.ensures.2.0,
    )

pub overflow_add-seat : goal.overflow_add-seat
overflow_add-seat g c =
    let kind : NodeKind g.N.Node.Record = kind_of g.N.Node.clock g.N.Node.was g.N.Node.next in
    let other = is_other c.seat.inside c.args.seat.now c.args.peer c.seat.view_is c.requires.below c.requires.other in
    let next = is_next kind g.N.Node.plain c.seat.inside c.args.seat.now c.args.peer c.args.index c.seat.invariant
    c.seat.view_is c.requires.next c.requires.counted in
    let l =
    has_fetched kind g.N.Node.plain c.self.inside.table.shared.table_id.slots c.ring_place-place.result c.args.peer
    c.args.index c.load-head.result c.load-body.result c.seat.inside c.load-head.new.seat.me c.load-body.new.seat.me
    c.seat.invariant other c.ring_place-place.ensures next c.load-head.ensures.2 c.load-body.ensures.2 in
    omega (arith, l.small_index)

pub signal_of-requires : goal.signal_of-requires
signal_of-requires g c =
    let kind : NodeKind g.N.Node.Record = kind_of g.N.Node.clock g.N.Node.was g.N.Node.next in
    let other = is_other c.seat.inside c.args.seat.now c.args.peer c.seat.view_is c.requires.below c.requires.other in
    let next = is_next kind g.N.Node.plain c.seat.inside c.args.seat.now c.args.peer c.args.index c.seat.invariant
    c.seat.view_is c.requires.next c.requires.counted in
    let l =
    has_fetched kind g.N.Node.plain c.self.inside.table.shared.table_id.slots c.ring_place-place.result c.args.peer
    c.args.index c.load-head.result c.load-body.result c.seat.inside c.load-head.new.seat.me c.load-body.new.seat.me
    c.seat.invariant other c.ring_place-place.ensures next c.load-head.ensures.2 c.load-body.ensures.2 in
    subst (λ (o : Option Signal). IsSome o) (sym l.signal_is) refl

pub invariant_of-seat : goal.invariant_of-seat
invariant_of-seat g c =
    let kind : NodeKind g.N.Node.Record = kind_of g.N.Node.clock g.N.Node.was g.N.Node.next in
    let other = is_other c.seat.inside c.args.seat.now c.args.peer c.seat.view_is c.requires.below c.requires.other in
    let next = is_next kind g.N.Node.plain c.seat.inside c.args.seat.now c.args.peer c.args.index c.seat.invariant
    c.seat.view_is c.requires.next c.requires.counted in
    let l =
    has_fetched kind g.N.Node.plain c.self.inside.table.shared.table_id.slots c.ring_place-place.result c.args.peer
    c.args.index c.load-head.result c.load-body.result c.seat.inside c.load-head.new.seat.me c.load-body.new.seat.me
    c.seat.invariant other c.ring_place-place.ensures next c.load-head.ensures.2 c.load-body.ensures.2 in
    fetched_seat kind g.N.Node.plain c.args.peer c.args.index c.load-head.result c.load-body.result c.seat.inside
    c.load-body.new.seat c.seat.invariant other next l

pub returns-clause-seat : goal.returns-clause-seat
returns-clause-seat g c =
    let kind : NodeKind g.N.Node.Record = kind_of g.N.Node.clock g.N.Node.was g.N.Node.next in
    let other = is_other c.seat.inside c.args.seat.now c.args.peer c.seat.view_is c.requires.below c.requires.other in
    let next = is_next kind g.N.Node.plain c.seat.inside c.args.seat.now c.args.peer c.args.index c.seat.invariant
    c.seat.view_is c.requires.next c.requires.counted in
    let l =
    has_fetched kind g.N.Node.plain c.self.inside.table.shared.table_id.slots c.ring_place-place.result c.args.peer
    c.args.index c.load-head.result c.load-body.result c.seat.inside c.load-head.new.seat.me c.load-body.new.seat.me
    c.seat.invariant other c.ring_place-place.ensures next c.load-head.ensures.2 c.load-body.ensures.2 in
    seen_made kind g.N.Node.plain c.seat.inside c.load-body.new.seat c.args.seat.now _ c.seat.invariant
    c.seat.view_is (c.load-body.ensures.0 ∙ c.load-head.ensures.0) l.seat
    ∙ ap (λ (r : Progress). with_made c.args.seat.now (with_peer r c.args.peer (fetched (peer_at r.peers c.args.peer))))
    (sym (own_made kind g.N.Node.plain c.seat.inside c.args.seat.now c.seat.invariant c.seat.view_is))

pub returns-clause-signal : goal.returns-clause-signal
returns-clause-signal g c key keys =
    let kind : NodeKind g.N.Node.Record = kind_of g.N.Node.clock g.N.Node.was g.N.Node.next in
    let other = is_other c.seat.inside c.args.seat.now c.args.peer c.seat.view_is c.requires.below c.requires.other in
    let next = is_next kind g.N.Node.plain c.seat.inside c.args.seat.now c.args.peer c.args.index c.seat.invariant
    c.seat.view_is c.requires.next c.requires.counted in
    let l =
    has_fetched kind g.N.Node.plain c.self.inside.table.shared.table_id.slots c.ring_place-place.result c.args.peer
    c.args.index c.load-head.result c.load-body.result c.seat.inside c.load-head.new.seat.me c.load-body.new.seat.me
    c.seat.invariant other c.ring_place-place.ensures next c.load-head.ensures.2 c.load-body.ensures.2 in
    let both : Some c.signal_of.result ≡ Some l.signal = c.signal_of.ensures ∙ l.signal_is in
    said kind g.N.Node.plain c.seat.inside c.load-body.new.seat.me c.args.seat.now _
    (λ k i old new. slice_get (told (script_of kind g.N.Node.plain k) c.args.peer) c.args.index
    ≡ Some c.signal_of.result)
    c.seat.invariant c.seat.view_is l.seat (l.stands ∙ sym both) key keys
