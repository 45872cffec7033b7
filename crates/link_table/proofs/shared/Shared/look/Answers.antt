use Rattle.std.proofs.Common.{ℕ, ◌%◌, ◌^◌, arith, subst, sym}
use Rattle.std.specs.Prelude.{slice_index}
use Rattle.link_order.specs.NodeKind.{NodeKind, kind_of}
use Rattle.link_rule.specs.Words.{count_of}
use Rattle.link_rule.specs.Steps.{Looks}
use Rattle.link_table.specs.Text.{script_of}
use Rattle.link_table.specs.Seated.{first_made}
use Rattle.link_table.proofs.Seats.{seen_after, said, is_other, own_table}
use Rattle.link_table.proofs.Looking.{may_look, has_looked, looked_seat}
use Rattle.link_table.proofs.shared.Shared.look.Goals as goal

pub load-word-requires : goal.load-word-requires
load-word-requires g c =
    let kind : NodeKind g.N.Node.Record = kind_of g.N.Node.clock g.N.Node.was g.N.Node.next in
    let other = is_other c.seat.inside c.args.seat.now c.args.peer c.seat.view_is c.requires.below c.requires.other in
    let four = c.seat.invariant.sound.at_most_four in
    let players = c.seat.invariant.players_is in
    let words = c.self.invariant in (
      own_table c.seat.inside c.args.seat.now _ c.args.self.now c.seat.view_is c.self.view_is c.requires.table,
      omega (arith, other.below, four, players, words, c.clock_place.ensures),
      may_look kind g.N.Node.plain c.self.inside.table.shared.key c.self.inside.table.shared.table_id.slots
          c.clock_place.result c.args.peer c.seat.inside c.seat.invariant other c.clock_place.ensures,
    )

pub count_of-requires : goal.count_of-requires
count_of-requires g c =
    let kind : NodeKind g.N.Node.Record = kind_of g.N.Node.clock g.N.Node.was g.N.Node.next in
    let other = is_other c.seat.inside c.args.seat.now c.args.peer c.seat.view_is c.requires.below c.requires.other in
    let l = has_looked kind g.N.Node.plain c.self.inside.table.shared.table_id.slots c.clock_place.result c.args.peer
    c.load-word.result c.seat.inside c.load-word.new.seat.me c.seat.invariant other c.clock_place.ensures
    c.load-word.ensures.2 in
    omega (arith, l.looks.small_count)

pub invariant_of-seat : goal.invariant_of-seat
invariant_of-seat g c =
    let kind : NodeKind g.N.Node.Record = kind_of g.N.Node.clock g.N.Node.was g.N.Node.next in
    let other = is_other c.seat.inside c.args.seat.now c.args.peer c.seat.view_is c.requires.below c.requires.other in
    looked_seat kind g.N.Node.plain c.args.peer _ _ c.seat.inside c.load-word.new.seat c.seat.invariant other
    (has_looked kind g.N.Node.plain c.self.inside.table.shared.table_id.slots c.clock_place.result c.args.peer
    c.load-word.result c.seat.inside c.load-word.new.seat.me c.seat.invariant other c.clock_place.ensures
    c.load-word.ensures.2)

pub returns-clause-seat : goal.returns-clause-seat
returns-clause-seat g c =
    let kind : NodeKind g.N.Node.Record = kind_of g.N.Node.clock g.N.Node.was g.N.Node.next in
    let other = is_other c.seat.inside c.args.seat.now c.args.peer c.seat.view_is c.requires.below c.requires.other in
    let l = has_looked kind g.N.Node.plain c.self.inside.table.shared.table_id.slots c.clock_place.result c.args.peer
    c.load-word.result c.seat.inside c.load-word.new.seat.me c.seat.invariant other c.clock_place.ensures
    c.load-word.ensures.2 in
    seen_after kind g.N.Node.plain c.seat.inside c.load-word.new.seat c.args.seat.now l.made c.seat.invariant
    c.seat.view_is c.load-word.ensures.0 l.seat

pub returns-clause-look : goal.returns-clause-look
returns-clause-look g c key keys =
    let kind : NodeKind g.N.Node.Record = kind_of g.N.Node.clock g.N.Node.was g.N.Node.next in
    let other = is_other c.seat.inside c.args.seat.now c.args.peer c.seat.view_is c.requires.below c.requires.other in
    let l = has_looked kind g.N.Node.plain c.self.inside.table.shared.table_id.slots c.clock_place.result c.args.peer
    c.load-word.result c.seat.inside c.load-word.new.seat.me c.seat.invariant other c.clock_place.ensures
    c.load-word.ensures.2 in
    subst (λ (n : ℕ). Looks (script_of kind g.N.Node.plain key) c.args.seat.now.player c.args.peer c.args.seat.now.made
    (c.load-word.result % 2 ^ 40) n (first_made c.load-word.new.seat.me.0.records)) (sym c.count_of.ensures)
    (said kind g.N.Node.plain c.seat.inside c.load-word.new.seat.me c.args.seat.now l.made
    (λ k i old new. Looks (script_of kind g.N.Node.plain k) i c.args.peer old (c.load-word.result % 2 ^ 40)
    (count_of c.load-word.result (slice_index c.seat.inside.taken c.args.peer)) new) c.seat.invariant c.seat.view_is
    l.seat l.looks key keys)
