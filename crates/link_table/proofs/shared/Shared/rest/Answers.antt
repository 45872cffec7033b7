use Rattle.std.specs.Prelude.{List, Option, Some, IsSome, slice_get, slice_index, slice_set}
use Rattle.std.proofs.Common.{ℕ, ◌≡◌, ◌+◌, arith, sym, ap, ◌∙◌, subst, refl}
use Rattle.link_node.specs.declared.signal.Signal.{Signal}
use Rattle.link_order.specs.NodeKind.{NodeKind, kind_of}
use Rattle.link_rule.proofs.Places.{in_ring}
use Rattle.link_script.specs.Script.{told}
use Rattle.link_table.specs.declared.key.Key.{Key}
use Rattle.link_table.specs.Text.{script_of}
use Rattle.link_table.specs.Uniting.{pair_place}
use Rattle.link_table.specs.Joining.{JoinedState, with_fetched}
use Rattle.link_table.proofs.Seats.{Mine}
use Rattle.link_table.proofs.Restings.{may_rest, are_pair, rest_count, is_left, rested_joined, same_joined}
use Rattle.link_table.proofs.Restings.{own_pair, own_key, own_fetched}
use Rattle.link_table.proofs.shared.Shared.rest.Goals as goal

pub load-word-requires : goal.load-word-requires
load-word-requires g c =
    let kind : NodeKind g.N.Node.Record = kind_of g.N.Node.clock g.N.Node.was g.N.Node.next in
    let p = are_pair kind g.N.Node.plain c.joined.inside c.args.joined.now c.args.player c.args.peer c.joined.invariant
    c.joined.view_is c.requires.player c.requires.peer c.requires.other in
    let below = p.peer_below in
    let four = c.joined.invariant.sound.at_most_four in
    let words = c.self.invariant in (
      ap (λ (z : JoinedState (Key g.row.N.Denot)). z.table) c.joined.view_is ∙ c.requires.table ∙ sym c.self.view_is,
      omega (arith, below, four, words, c.clock_place.ensures),
      may_rest kind g.N.Node.plain c.self.inside.table.shared.key c.self.inside.table.shared.table_id.slots
          c.joined.inside.place.id c.clock_place.result c.joined.inside.place.me
          (ap (λ (m : Mine g.row.N.Denot). m.1) c.joined.invariant.me_is),
    )

pub count_of-requires : goal.count_of-requires
count_of-requires g c =
    let kind : NodeKind g.N.Node.Record = kind_of g.N.Node.clock g.N.Node.was g.N.Node.next in
    let p = are_pair kind g.N.Node.plain c.joined.inside c.args.joined.now c.args.player c.args.peer c.joined.invariant
    c.joined.view_is c.requires.player c.requires.peer c.requires.other in
    let count = rest_count kind g.N.Node.plain c.joined.inside c.args.player c.args.peer
    c.self.inside.table.shared.table_id.slots c.clock_place.result c.load-word.result c.load-word.new.seat.me
    c.joined.invariant p c.clock_place.ensures c.load-word.ensures.2 in
    omega (arith, p.small, count)

pub returns-then-count_of-taken-clause-rest : goal.returns-then-count_of-taken-clause-rest
returns-then-count_of-taken-clause-rest g c key keys o there =
    let kind : NodeKind g.N.Node.Record = kind_of g.N.Node.clock g.N.Node.was g.N.Node.next in
    let p = are_pair kind g.N.Node.plain c.joined.inside c.args.joined.now c.args.player c.args.peer c.joined.invariant
    c.joined.view_is c.requires.player c.requires.peer c.requires.other in
    let count = rest_count kind g.N.Node.plain c.joined.inside c.args.player c.args.peer
    c.self.inside.table.shared.table_id.slots c.clock_place.result c.load-word.result c.load-word.new.seat.me
    c.joined.invariant p c.clock_place.ensures c.load-word.ensures.2 in
    let its =
    own_pair kind g.N.Node.plain c.joined.inside c.args.joined.now c.args.player c.args.peer c.joined.invariant
    c.joined.view_is p o there in
    let fetched = own_fetched c.joined.inside c.args.joined.now c.joined.view_is in
    let same : slice_index c.args.joined.now.fetched (pair_place c.args.player c.args.peer)
    ≡ slice_index c.joined.inside.fetched (pair_place c.args.player c.args.peer)
    = ap (λ (l : List ℕ). slice_index l (pair_place c.args.player c.args.peer)) (sym fetched) in (
      omega (arith, same, count, its, c.if-count_of-taken.true, c.count_of.ensures),
      same_joined c.joined.inside c.load-word.new.seat c.joined.inside.fetched c.args.joined.now c.joined.view_is
          c.load-word.ensures.0 c.load-word.ensures.2.0
          ∙ ap (with_fetched c.args.joined.now) fetched,
    )

pub load-head-requires : goal.load-head-requires
load-head-requires g c =
    let kind : NodeKind g.N.Node.Record = kind_of g.N.Node.clock g.N.Node.was g.N.Node.next in
    let p = are_pair kind g.N.Node.plain c.joined.inside c.args.joined.now c.args.player c.args.peer c.joined.invariant
    c.joined.view_is c.requires.player c.requires.peer c.requires.other in
    let below = p.peer_below in
    let four = c.joined.invariant.sound.at_most_four in
    let words = c.self.invariant in
    let ring = in_ring c.args.peer (slice_index c.joined.inside.fetched (pair_place c.args.player c.args.peer)) in (
      c.load-word.ensures.0 ∙ ap (λ (z : JoinedState (Key g.row.N.Denot)). z.table) c.joined.view_is ∙ c.requires.table
          ∙ sym c.self.view_is,
      omega (arith, below, four, words, ring.before, c.ring_place-place.ensures),
      may_rest kind g.N.Node.plain c.self.inside.table.shared.key c.self.inside.table.shared.table_id.slots
          c.load-word.new.seat.id c.ring_place-place.result c.load-word.new.seat.me
          (ap (λ (m : Mine g.row.N.Denot). m.1) (c.load-word.ensures.2.0 ∙ c.joined.invariant.me_is)),
    )

pub load-body-requires : goal.load-body-requires
load-body-requires g c =
    let kind : NodeKind g.N.Node.Record = kind_of g.N.Node.clock g.N.Node.was g.N.Node.next in
    let p = are_pair kind g.N.Node.plain c.joined.inside c.args.joined.now c.args.player c.args.peer c.joined.invariant
    c.joined.view_is c.requires.player c.requires.peer c.requires.other in
    let below = p.peer_below in
    let four = c.joined.invariant.sound.at_most_four in
    let words = c.self.invariant in
    let ring = in_ring c.args.peer (slice_index c.joined.inside.fetched (pair_place c.args.player c.args.peer)) in (
      c.load-head.ensures.0 ∙ c.load-word.ensures.0
          ∙ ap (λ (z : JoinedState (Key g.row.N.Denot)). z.table) c.joined.view_is
          ∙ c.requires.table ∙ sym c.self.view_is,
      omega (arith, below, four, words, ring.before, c.ring_place-place.ensures),
      may_rest kind g.N.Node.plain c.self.inside.table.shared.key c.self.inside.table.shared.table_id.slots
          c.load-head.new.seat.id (c.ring_place-place.result + 1) c.load-head.new.seat.me
          (ap (λ (m : Mine g.row.N.Denot). m.1)
          (c.load-head.ensures.2.0 ∙ c.load-word.ensures.2.0 ∙ c.joined.invariant.me_is)),
    )

pub signal_of-requires : goal.signal_of-requires
signal_of-requires g c =
    let kind : NodeKind g.N.Node.Record = kind_of g.N.Node.clock g.N.Node.was g.N.Node.next in
    let p = are_pair kind g.N.Node.plain c.joined.inside c.args.joined.now c.args.player c.args.peer c.joined.invariant
    c.joined.view_is c.requires.player c.requires.peer c.requires.other in
    let count = rest_count kind g.N.Node.plain c.joined.inside c.args.player c.args.peer
    c.self.inside.table.shared.table_id.slots c.clock_place.result c.load-word.result c.load-word.new.seat.me
    c.joined.invariant p c.clock_place.ensures c.load-word.ensures.2 in
    let other = c.if-count_of-taken.false in
    let got = p.got in
    let x = is_left kind g.N.Node.plain c.joined.inside c.args.player c.args.peer
    c.self.inside.table.shared.table_id.slots c.ring_place-place.result c.load-head.result c.load-body.result
    c.load-word.new.seat.me c.load-head.new.seat.me c.load-body.new.seat.me c.joined.invariant p
    (omega (arith, got, count, other, c.count_of.ensures)) c.ring_place-place.ensures c.load-word.ensures.2.0
    c.load-head.ensures.2 c.load-body.ensures.2 in
    subst (λ (o : Option Signal). IsSome o) (sym x.signal_is) refl

pub invariant_of-joined-2 : goal.invariant_of-joined-2
invariant_of-joined-2 g c =
    let kind : NodeKind g.N.Node.Record = kind_of g.N.Node.clock g.N.Node.was g.N.Node.next in
    let p = are_pair kind g.N.Node.plain c.joined.inside c.args.joined.now c.args.player c.args.peer c.joined.invariant
    c.joined.view_is c.requires.player c.requires.peer c.requires.other in
    let count = rest_count kind g.N.Node.plain c.joined.inside c.args.player c.args.peer
    c.self.inside.table.shared.table_id.slots c.clock_place.result c.load-word.result c.load-word.new.seat.me
    c.joined.invariant p c.clock_place.ensures c.load-word.ensures.2 in
    let other = c.if-count_of-taken.false in
    let got = p.got in
    rested_joined kind g.N.Node.plain c.joined.inside c.load-body.new.seat c.args.player c.args.peer
    c.joined.invariant p (c.load-body.ensures.2.0 ∙ c.load-head.ensures.2.0 ∙ c.load-word.ensures.2.0)
    (omega (arith, got, count, other, c.count_of.ensures))

pub returns-clause-rest : goal.returns-clause-rest
returns-clause-rest g c key keys o there =
    let kind : NodeKind g.N.Node.Record = kind_of g.N.Node.clock g.N.Node.was g.N.Node.next in
    let p = are_pair kind g.N.Node.plain c.joined.inside c.args.joined.now c.args.player c.args.peer c.joined.invariant
    c.joined.view_is c.requires.player c.requires.peer c.requires.other in
    let count = rest_count kind g.N.Node.plain c.joined.inside c.args.player c.args.peer
    c.self.inside.table.shared.table_id.slots c.clock_place.result c.load-word.result c.load-word.new.seat.me
    c.joined.invariant p c.clock_place.ensures c.load-word.ensures.2 in
    let other = c.if-count_of-taken.false in
    let got = p.got in
    let x = is_left kind g.N.Node.plain c.joined.inside c.args.player c.args.peer
    c.self.inside.table.shared.table_id.slots c.ring_place-place.result c.load-head.result c.load-body.result
    c.load-word.new.seat.me c.load-head.new.seat.me c.load-body.new.seat.me c.joined.invariant p
    (omega (arith, got, count, other, c.count_of.ensures)) c.ring_place-place.ensures c.load-word.ensures.2.0
    c.load-head.ensures.2 c.load-body.ensures.2 in
    let its =
    own_pair kind g.N.Node.plain c.joined.inside c.args.joined.now c.args.player c.args.peer c.joined.invariant
    c.joined.view_is p o there in
    let fetched = own_fetched c.joined.inside c.args.joined.now c.joined.view_is in
    let pair : ℕ = pair_place c.args.player c.args.peer in
    let same : slice_index c.args.joined.now.fetched pair ≡ slice_index c.joined.inside.fetched pair
    = ap (λ (l : List ℕ). slice_index l pair) (sym fetched) in
    let keys_are = own_key kind g.N.Node.plain c.joined.inside c.args.joined.now c.joined.invariant c.joined.view_is key
    keys in
    let both : Some c.signal_of.result ≡ Some x.signal = c.signal_of.ensures ∙ x.signal_is in (
      omega (arith, same, got, count, other, its, c.count_of.ensures),
      subst (λ (k : Key g.row.N.Denot). slice_get (told (script_of kind g.N.Node.plain k) c.args.peer)
          (slice_index c.args.joined.now.fetched pair) ≡ Some c.signal_of.result) keys_are
          (ap (slice_get (told (script_of kind g.N.Node.plain c.joined.invariant.key) c.args.peer)) same ∙ x.stands
          ∙ sym both),
      same_joined c.joined.inside c.load-body.new.seat (slice_set c.joined.inside.fetched pair
          (slice_index c.joined.inside.fetched pair + 1)) c.args.joined.now c.joined.view_is
          (c.load-body.ensures.0 ∙ c.load-head.ensures.0 ∙ c.load-word.ensures.0)
          (c.load-body.ensures.2.0 ∙ c.load-head.ensures.2.0 ∙ c.load-word.ensures.2.0)
          ∙ ap (λ (l : List ℕ). with_fetched c.args.joined.now (slice_set l pair (slice_index l pair + 1))) fetched,
    )

pub returns-then-count_of-taken-clause-same : goal.returns-then-count_of-taken-clause-same
returns-then-count_of-taken-clause-same g c =
    same_joined c.joined.inside c.load-word.new.seat c.joined.inside.fetched c.args.joined.now c.joined.view_is
    c.load-word.ensures.0 c.load-word.ensures.2.0

pub returns-clause-same : goal.returns-clause-same
returns-clause-same g c =
    let pair : ℕ = pair_place c.args.player c.args.peer in
    same_joined c.joined.inside c.load-body.new.seat (slice_set c.joined.inside.fetched pair
    (slice_index c.joined.inside.fetched pair + 1)) c.args.joined.now c.joined.view_is
    (c.load-body.ensures.0 ∙ c.load-head.ensures.0 ∙ c.load-word.ensures.0)
    (c.load-body.ensures.2.0 ∙ c.load-head.ensures.2.0 ∙ c.load-word.ensures.2.0)
