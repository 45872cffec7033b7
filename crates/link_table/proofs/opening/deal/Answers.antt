use Rattle.std.specs.Prelude.{List, [], ◌∷◌, ◌++◌}
use Rattle.std.proofs.Common.{ℕ, ◌≡◌, ◌+◌, ◌-◌, arith, sym, ap, ◌∙◌, subst}
use Rattle.link_order.specs.NodeKind.{NodeKind, kind_of}
use Rattle.link_rule.specs.Rule.{seat_of, opening_progress}
use Rattle.link_rule.proofs.Seats.{split_allowed}
use Rattle.link_table.specs.declared.key.Key.{Key}
use Rattle.link_table.specs.Text.{script_of}
use Rattle.link_table.specs.Seated.{SeatState}
use Rattle.link_table.specs.Opening.{AreDealt}
use Rattle.link_table.proofs.Seats.{Place}
use Rattle.link_table.proofs.Dealings.{IsDealing, undealt_first, last_seat, own_key, taken_is, dealing_on, dealt_more}
use Rattle.link_table.proofs.opening.deal.Goals as goal

pub split_seat-others-requires : goal.split_seat-others-requires
split_seat-others-requires g c =
    let kind : NodeKind g.N.Node.Record = kind_of g.N.Node.clock g.N.Node.was g.N.Node.next in
    let words = c.shared.invariant in (
      c.loop-player.invariant.table_is ∙ c.requires.table ∙ sym c.shared.view_is,
      omega (arith, words),
      split_allowed (script_of kind g.N.Node.plain) c.shared.inside.table.shared.key c.loop-player.place.id
          c.loop-player.place.me.0,
    )

pub take_seat-requires-clause-common : goal.take_seat-requires-clause-common
take_seat-requires-clause-common g c =
    let kind : NodeKind g.N.Node.Record = kind_of g.N.Node.clock g.N.Node.was g.N.Node.next in
    let less = c.loop-player-test.true in (
      c.loop-player.invariant.key,
      c.loop-player.invariant.common,
      ap (λ (p : Place g.row.N.Denot). p.me) c.replace-first.ensures.value
          ∙ undealt_first kind g.N.Node.plain c.loop-player.invariant.key c.loop-player.place.me _ _ _
          c.loop-player.invariant.undealt (omega arith) c.split_seat-others.ensures.2,
    )

pub loop-player-preserved : goal.loop-player-preserved
loop-player-preserved g c =
    let kind : NodeKind g.N.Node.Record = kind_of g.N.Node.clock g.N.Node.was g.N.Node.next in
    let d : IsDealing kind g.N.Node.plain c.args.place c.loop-player.place c.args.players c.args.delays.now
    c.loop-player.player c.loop-player.seats.items = c.loop-player.invariant in
    let less = c.loop-player-test.true in
    let me_is : c.replace-first.result.me
    ≡ (seat_of d.key (c.loop-player.player - 1) (opening_progress (script_of kind g.N.Node.plain d.key)), [])
    = ap (λ (p : Place g.row.N.Denot). p.me) c.replace-first.ensures.value
    ∙ undealt_first kind g.N.Node.plain d.key c.loop-player.place.me c.split_seat-others.new.seat.me
    (c.loop-player.player - 1) (c.args.players - (c.loop-player.player - 1)) d.undealt (omega arith)
    c.split_seat-others.ensures.2 in
    let table_is : c.replace-first.result.table_id ≡ c.args.place.table_id
    = ap (λ (p : Place g.row.N.Denot). p.table_id) c.replace-first.ensures.value
    ∙ c.split_seat-others.ensures.0 ∙ d.table_is in
    let seat_is = taken_is kind g.N.Node.plain d.key _ _ (c.loop-player.player - 1) c.args.players c.take_seat.result
    (c.take_seat.ensures d.key me_is) table_is in
    let next = dealing_on kind g.N.Node.plain c.args.place c.loop-player.place c.split_seat-others.new.seat
    c.split_seat-others.result c.args.players c.args.delays.now c.loop-player.player c.loop-player.seats.items
    c.take_seat.result d less c.split_seat-others.ensures.3 c.split_seat-others.ensures.4 seat_is in
    subst (λ (l : List (SeatState (Key g.row.N.Denot))). IsDealing kind g.N.Node.plain c.args.place
    c.replace-first.new.dest c.args.players c.args.delays.now (c.loop-player.player + 1) l)
    (sym c.in_ok-push.ensures.items)
    (subst (λ (p : Place g.row.N.Denot). IsDealing kind g.N.Node.plain c.args.place p c.args.players c.args.delays.now
    (c.loop-player.player + 1) (c.loop-player.seats.items ++ c.take_seat.result ∷ []))
    (sym c.replace-first.ensures.after) next)

pub returns : goal.returns
returns g c key whole =
    let kind : NodeKind g.N.Node.Record = kind_of g.N.Node.clock g.N.Node.was g.N.Node.next in
    let d : IsDealing kind g.N.Node.plain c.args.place c.loop-player.place c.args.players c.args.delays.now
    c.loop-player.player c.loop-player.seats.items = c.loop-player.invariant in
    let past = c.loop-player-test.false in
    let some = d.some in
    let most = d.most in
    let me_is = last_seat kind g.N.Node.plain c.args.place c.loop-player.place c.args.players c.args.delays.now
    c.loop-player.player c.loop-player.seats.items d (omega arith) in
    let seat_is = taken_is kind g.N.Node.plain d.key _ _ (c.args.players - 1) c.args.players c.take_seat-2.result
    (c.take_seat-2.ensures d.key me_is) d.table_is in
    let dealt : AreDealt kind g.N.Node.plain d.key c.args.place.table_id c.args.players (c.args.players - 1)
    c.loop-player.seats.items
    = subst (λ (n : ℕ). AreDealt kind g.N.Node.plain d.key c.args.place.table_id c.args.players n
    c.loop-player.seats.items) (let t : c.loop-player.player - 1 ≡ c.args.players - 1 = omega arith in t) d.dealt in
    let more = dealt_more kind g.N.Node.plain d.key c.args.place.table_id c.args.players (c.args.players - 1)
    c.loop-player.seats.items c.take_seat-2.result dealt seat_is in
    let keys : d.key ≡ key
    = own_key kind g.N.Node.plain d.key key c.args.place.me c.args.players d.whole_is whole in
    subst (λ (k : Key g.row.N.Denot). AreDealt kind g.N.Node.plain k c.args.place.table_id c.args.players c.args.players
    c.push-2.new.self.items) keys
    (subst (λ (l : List (SeatState (Key g.row.N.Denot))). AreDealt kind g.N.Node.plain d.key c.args.place.table_id
    c.args.players c.args.players l) (sym c.in_ok-push-2.ensures.items)
    (subst (λ (n : ℕ). AreDealt kind g.N.Node.plain d.key c.args.place.table_id c.args.players n
    (c.loop-player.seats.items ++ c.take_seat-2.result ∷ []))
    (let t : c.args.players - 1 + 1 ≡ c.args.players = omega arith in t) more))
