use Rattle.std.specs.Prelude.{List, length}
use Rattle.std.proofs.Common.{◌<◌, arith, sym, ◌∙◌, subst}
use Rattle.link_order.specs.NodeKind.{NodeKind, kind_of}
use Rattle.link_rule.proofs.Seats.{join_allowed}
use Rattle.link_table.specs.declared.key.Key.{Key}
use Rattle.link_table.specs.Text.{script_of}
use Rattle.link_table.specs.Seated.{SeatState}
use Rattle.link_table.proofs.Unitings.{Follows, follows, IsUniting, uniting_next}
use Rattle.link_table.proofs.joined.unite.Goals as goal

pub join_seat-requires : goal.join_seat-requires
join_seat-requires g c =
    let kind : NodeKind g.N.Node.Record = kind_of g.N.Node.clock g.N.Node.was g.N.Node.next in
    let some : 0 < length c.loop-shared.rest.items
    = omega (arith, c.remove-in-loop-shared.ensures.len, c.loop-shared.rest.ok) in
    let words = c.shared.invariant in
    let f : Follows c.loop-shared.place c.into_place-next.result c.args.shared.now
    = follows kind g.N.Node.plain c.args.shared.now c.args.seats.items c.loop-shared.place c.into_place-next.result
    c.loop-shared.rest.items c.remove-in-loop-shared.result c.loop-shared.invariant some
    c.remove-in-loop-shared.ensures.value c.into_place-next.ensures in (
      f.own_table ∙ sym c.shared.view_is,
      f.table_is ∙ sym c.shared.view_is,
      f.empty,
      omega (arith, words),
      join_allowed (script_of kind g.N.Node.plain) c.shared.inside.table.shared.key c.loop-shared.place.id
          c.into_place-next.result.id c.loop-shared.place.me.0 c.into_place-next.result.me.0 f.some f.after,
    )

pub loop-shared-preserved : goal.loop-shared-preserved
loop-shared-preserved g c =
    let kind : NodeKind g.N.Node.Record = kind_of g.N.Node.clock g.N.Node.was g.N.Node.next in
    let some : 0 < length c.loop-shared.rest.items
    = omega (arith, c.remove-in-loop-shared.ensures.len, c.loop-shared.rest.ok) in
    subst (λ (l : List (SeatState (Key g.row.N.Denot))). IsUniting kind g.N.Node.plain c.args.shared.now
    c.args.seats.items c.join_seat.new.seat l) (sym c.remove-in-loop-shared.ensures.items)
    (uniting_next kind g.N.Node.plain c.args.shared.now c.args.seats.items c.loop-shared.place c.into_place-next.result
    c.join_seat.new.seat c.loop-shared.rest.items c.remove-in-loop-shared.result c.loop-shared.invariant some
    c.remove-in-loop-shared.ensures.value c.into_place-next.ensures c.join_seat.ensures.0 c.join_seat.ensures.2)
