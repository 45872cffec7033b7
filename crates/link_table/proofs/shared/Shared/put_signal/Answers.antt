use Rattle.std.proofs.Common.{◌+◌, arith, sym, ap, ◌∙◌}
use Rattle.link_order.specs.NodeKind.{NodeKind, kind_of}
use Rattle.link_rule.specs.declared.view.Progress.{Progress}
use Rattle.link_rule.specs.Steps.{with_written}
use Rattle.link_rule.proofs.Places.{in_ring}
use Rattle.link_table.specs.Seated.{with_made}
use Rattle.link_table.proofs.Seats.{seen_made, own_table, own_made}
use Rattle.link_table.proofs.Putting.{is_put, may_put_head, half_put, may_put_tail, whole_put, put_seat}
use Rattle.link_table.proofs.shared.Shared.put_signal.Goals as goal

pub pack-head-requires-clause-clock : goal.pack-head-requires-clause-clock
pack-head-requires-clause-clock g c =
    (is_put (kind_of g.N.Node.clock g.N.Node.was g.N.Node.next) g.N.Node.plain c.seat.inside c.args.seat.now
    c.args.signal.now c.seat.invariant c.seat.view_is c.requires.next c.requires.unwritten).clock

pub pack-head-requires-clause-widths : goal.pack-head-requires-clause-widths
pack-head-requires-clause-widths g c =
    (is_put (kind_of g.N.Node.clock g.N.Node.was g.N.Node.next) g.N.Node.plain c.seat.inside c.args.seat.now
    c.args.signal.now c.seat.invariant c.seat.view_is c.requires.next c.requires.unwritten).widths

pub store-requires : goal.store-requires
store-requires g c =
    let kind : NodeKind g.N.Node.Record = kind_of g.N.Node.clock g.N.Node.was g.N.Node.next in
    let p = is_put kind g.N.Node.plain c.seat.inside c.args.seat.now c.args.signal.now c.seat.invariant c.seat.view_is
    c.requires.next c.requires.unwritten in
    let four = c.seat.invariant.sound.at_most_four in
    let players = c.seat.invariant.players_is in
    let below = c.seat.invariant.below in
    let words = c.self.invariant in
    let ring = in_ring c.seat.inside.player c.seat.inside.sent in (
      own_table c.seat.inside c.args.seat.now _ c.args.self.now c.seat.view_is c.self.view_is c.requires.table,
      omega (arith, below, four, players, words, ring.before, c.ring_place-place.ensures),
      may_put_head kind g.N.Node.plain c.self.inside.table.shared.key c.self.inside.table.shared.table_id.slots
          c.ring_place-place.result _ c.args.signal.now c.seat.inside c.seat.invariant p c.ring_place-place.ensures
          c.pack-head.ensures.head,
    )

pub store-requires-2 : goal.store-requires-2
store-requires-2 g c =
    let kind : NodeKind g.N.Node.Record = kind_of g.N.Node.clock g.N.Node.was g.N.Node.next in
    let p = is_put kind g.N.Node.plain c.seat.inside c.args.seat.now c.args.signal.now c.seat.invariant c.seat.view_is
    c.requires.next c.requires.unwritten in
    let half = half_put kind g.N.Node.plain c.self.inside.table.shared.table_id.slots c.ring_place-place.result
    c.pack-head.result.0 c.args.signal.now c.seat.inside c.store.new.seat.me c.seat.invariant p c.store.ensures.2 in
    let four = c.seat.invariant.sound.at_most_four in
    let players = c.seat.invariant.players_is in
    let below = c.seat.invariant.below in
    let words = c.self.invariant in
    let ring = in_ring c.seat.inside.player c.seat.inside.sent in (
      c.store.ensures.0
          ∙ own_table c.seat.inside c.args.seat.now _ c.args.self.now c.seat.view_is c.self.view_is c.requires.table,
      omega (arith, below, four, players, words, ring.before, c.ring_place-place.ensures),
      may_put_tail kind g.N.Node.plain c.self.inside.table.shared.key c.self.inside.table.shared.table_id.slots
          c.ring_place-place.result _ c.args.signal.now c.seat.inside c.store.new.seat c.seat.invariant p half
          c.ring_place-place.ensures c.pack-head.ensures.words,
    )

pub invariant_of-seat : goal.invariant_of-seat
invariant_of-seat g c =
    let kind : NodeKind g.N.Node.Record = kind_of g.N.Node.clock g.N.Node.was g.N.Node.next in
    let p = is_put kind g.N.Node.plain c.seat.inside c.args.seat.now c.args.signal.now c.seat.invariant c.seat.view_is
    c.requires.next c.requires.unwritten in
    let half = half_put kind g.N.Node.plain c.self.inside.table.shared.table_id.slots c.ring_place-place.result
    c.pack-head.result.0 c.args.signal.now c.seat.inside c.store.new.seat.me c.seat.invariant p c.store.ensures.2 in
    put_seat kind g.N.Node.plain c.seat.inside c.store-2.new.seat c.seat.invariant
    (whole_put kind g.N.Node.plain c.self.inside.table.shared.table_id.slots (c.ring_place-place.result + 1)
    c.pack-head.result.1 c.seat.inside c.store.new.seat.me c.store-2.new.seat.me c.seat.invariant half
    c.store-2.ensures.2)

pub returns : goal.returns
returns g c =
    let kind : NodeKind g.N.Node.Record = kind_of g.N.Node.clock g.N.Node.was g.N.Node.next in
    let p = is_put kind g.N.Node.plain c.seat.inside c.args.seat.now c.args.signal.now c.seat.invariant c.seat.view_is
    c.requires.next c.requires.unwritten in
    let half = half_put kind g.N.Node.plain c.self.inside.table.shared.table_id.slots c.ring_place-place.result
    c.pack-head.result.0 c.args.signal.now c.seat.inside c.store.new.seat.me c.seat.invariant p c.store.ensures.2 in
    let whole = whole_put kind g.N.Node.plain c.self.inside.table.shared.table_id.slots (c.ring_place-place.result + 1)
    c.pack-head.result.1 c.seat.inside c.store.new.seat.me c.store-2.new.seat.me c.seat.invariant half
    c.store-2.ensures.2 in
    seen_made kind g.N.Node.plain c.seat.inside c.store-2.new.seat c.args.seat.now _ c.seat.invariant c.seat.view_is
    (c.store-2.ensures.0 ∙ c.store.ensures.0) whole
    ∙ ap (λ (r : Progress). with_made c.args.seat.now (with_written r 2))
    (sym (own_made kind g.N.Node.plain c.seat.inside c.args.seat.now c.seat.invariant c.seat.view_is))
