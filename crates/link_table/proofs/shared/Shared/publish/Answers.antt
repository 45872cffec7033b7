use Rattle.std.proofs.Common.{◌+◌, arith, refl}
use Rattle.link_order.specs.NodeKind.{NodeKind, kind_of}
use Rattle.link_rule.specs.Words.{clock_word}
use Rattle.link_rule.specs.Steps.{MayPublish, Publishes}
use Rattle.link_table.specs.Text.{script_of}
use Rattle.link_table.proofs.Seats.{seen_after, said, asked, own_table}
use Rattle.link_table.proofs.Publishing.{is_written, are_small, may_publish, has_published, published_seat}
use Rattle.link_table.proofs.shared.Shared.publish.Goals as goal

pub overflow_add-sent : goal.overflow_add-sent
overflow_add-sent g c =
    let kind : NodeKind g.N.Node.Record = kind_of g.N.Node.clock g.N.Node.was g.N.Node.next in
    let may = asked kind g.N.Node.plain c.seat.inside c.args.seat.now
    (λ k i r. MayPublish (script_of kind g.N.Node.plain k) i r c.args.clock) c.seat.invariant c.seat.view_is
    c.requires.next in
    let w = is_written kind g.N.Node.plain c.seat.inside c.from.result c.seat.invariant c.from.ensures in
    let small = are_small kind g.N.Node.plain c.seat.inside c.from.result c.args.clock c.seat.invariant w may in
    omega (arith, small.sent_small, small.flag_small)

pub overflow_add-word : goal.overflow_add-word
overflow_add-word g c =
    let kind : NodeKind g.N.Node.Record = kind_of g.N.Node.clock g.N.Node.was g.N.Node.next in
    let may = asked kind g.N.Node.plain c.seat.inside c.args.seat.now
    (λ k i r. MayPublish (script_of kind g.N.Node.plain k) i r c.args.clock) c.seat.invariant c.seat.view_is
    c.requires.next in
    let w = is_written kind g.N.Node.plain c.seat.inside c.from.result c.seat.invariant c.from.ensures in
    let small = are_small kind g.N.Node.plain c.seat.inside c.from.result c.args.clock c.seat.invariant w may in
    omega (arith, small.clock_small)

pub store-requires : goal.store-requires
store-requires g c =
    let kind : NodeKind g.N.Node.Record = kind_of g.N.Node.clock g.N.Node.was g.N.Node.next in
    let may = asked kind g.N.Node.plain c.seat.inside c.args.seat.now
    (λ k i r. MayPublish (script_of kind g.N.Node.plain k) i r c.args.clock) c.seat.invariant c.seat.view_is
    c.requires.next in
    let w = is_written kind g.N.Node.plain c.seat.inside c.from.result c.seat.invariant c.from.ensures in
    let four = c.seat.invariant.sound.at_most_four in
    let players = c.seat.invariant.players_is in
    let below = c.seat.invariant.below in
    let words = c.self.invariant in (
      own_table c.seat.inside c.args.seat.now _ c.args.self.now c.seat.view_is c.self.view_is c.requires.table,
      omega (arith, below, four, players, words, c.clock_place.ensures),
      may_publish kind g.N.Node.plain c.self.inside.table.shared.key c.self.inside.table.shared.table_id.slots
          c.clock_place.result _ c.from.result c.args.clock c.seat.inside c.seat.invariant may w
          c.clock_place.ensures refl,
    )

pub invariant_of-seat : goal.invariant_of-seat
invariant_of-seat g c =
    let kind : NodeKind g.N.Node.Record = kind_of g.N.Node.clock g.N.Node.was g.N.Node.next in
    let may = asked kind g.N.Node.plain c.seat.inside c.args.seat.now
    (λ k i r. MayPublish (script_of kind g.N.Node.plain k) i r c.args.clock) c.seat.invariant c.seat.view_is
    c.requires.next in
    let w = is_written kind g.N.Node.plain c.seat.inside c.from.result c.seat.invariant c.from.ensures in
    published_seat kind g.N.Node.plain c.seat.inside c.store.new.seat c.from.result c.args.clock c.seat.invariant
    (has_published kind g.N.Node.plain c.self.inside.table.shared.table_id.slots c.clock_place.result
    (clock_word c.args.clock (c.seat.inside.sent + c.from.result)) c.from.result
    c.args.clock c.seat.inside c.store.new.seat.me c.seat.invariant may w refl c.store.ensures.2)

pub returns-clause-seat : goal.returns-clause-seat
returns-clause-seat g c =
    let kind : NodeKind g.N.Node.Record = kind_of g.N.Node.clock g.N.Node.was g.N.Node.next in
    let may = asked kind g.N.Node.plain c.seat.inside c.args.seat.now
    (λ k i r. MayPublish (script_of kind g.N.Node.plain k) i r c.args.clock) c.seat.invariant c.seat.view_is
    c.requires.next in
    let w = is_written kind g.N.Node.plain c.seat.inside c.from.result c.seat.invariant c.from.ensures in
    let l = has_published kind g.N.Node.plain c.self.inside.table.shared.table_id.slots c.clock_place.result
    (clock_word c.args.clock (c.seat.inside.sent + c.from.result)) c.from.result c.args.clock c.seat.inside
    c.store.new.seat.me c.seat.invariant may w refl c.store.ensures.2 in
    seen_after kind g.N.Node.plain c.seat.inside c.store.new.seat c.args.seat.now l.made c.seat.invariant c.seat.view_is
    c.store.ensures.0 l.seat

pub returns-clause-step : goal.returns-clause-step
returns-clause-step g c key keys =
    let kind : NodeKind g.N.Node.Record = kind_of g.N.Node.clock g.N.Node.was g.N.Node.next in
    let may = asked kind g.N.Node.plain c.seat.inside c.args.seat.now
    (λ k i r. MayPublish (script_of kind g.N.Node.plain k) i r c.args.clock) c.seat.invariant c.seat.view_is
    c.requires.next in
    let w = is_written kind g.N.Node.plain c.seat.inside c.from.result c.seat.invariant c.from.ensures in
    let l = has_published kind g.N.Node.plain c.self.inside.table.shared.table_id.slots c.clock_place.result
    (clock_word c.args.clock (c.seat.inside.sent + c.from.result)) c.from.result c.args.clock c.seat.inside
    c.store.new.seat.me c.seat.invariant may w refl c.store.ensures.2 in
    said kind g.N.Node.plain c.seat.inside c.store.new.seat.me c.args.seat.now l.made
    (λ k i old new. Publishes (script_of kind g.N.Node.plain k) i old c.args.clock new) c.seat.invariant c.seat.view_is
    l.seat l.step key keys
