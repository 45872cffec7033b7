use Rattle.std.specs.Prelude.{List, length}
use Rattle.std.proofs.Common.{arith, sym, ap, ◌∙◌, subst}
use Rattle.link_order.specs.NodeKind.{NodeKind, kind_of}
use Rattle.link_table.specs.declared.key.Key.{Key}
use Rattle.link_table.specs.Seated.{SeatState}
use Rattle.link_table.specs.Uniting.{AreTaken}
use Rattle.link_table.proofs.Seats.{Mine}
use Rattle.link_table.proofs.Restings.{may_rest, is_joined, met_of}
use Rattle.link_table.proofs.shared.Shared.meet.Goals as goal

pub load-requires : goal.load-requires
load-requires g c =
    let kind : NodeKind g.N.Node.Record = kind_of g.N.Node.clock g.N.Node.was g.N.Node.next in
    let words = c.self.invariant in (
      c.unite-place.ensures.table_is ∙ sym c.self.view_is,
      omega (arith, words),
      may_rest kind g.N.Node.plain c.self.inside.table.shared.key c.self.inside.table.shared.table_id.slots
          c.unite-place.result.id 0 c.unite-place.result.me
          (ap (λ (m : Mine g.row.N.Denot). m.1) c.unite-place.ensures.me_is),
    )

pub invariant_of-result : goal.invariant_of-result
invariant_of-result g c =
    is_joined (kind_of g.N.Node.clock g.N.Node.was g.N.Node.next) g.N.Node.plain c.args.self.now
    c.unite-place.result.table_id c.args.seats.items c.unite-place.result.me
    (record { place = c.load.new.seat; fetched = c.taken_of-fetched.result })
    c.self.inside.table.shared.table_id.slots c.load.result c.unite-place.ensures c.load.ensures.2
    c.taken_of-fetched.ensures.wide
    (subst (λ (l : List (SeatState (Key g.row.N.Denot))). AreTaken l c.taken_of-fetched.result (length l))
    c.deref.ensures.value c.taken_of-fetched.ensures.taken)

pub returns-clause-met : goal.returns-clause-met
returns-clause-met g c key keys =
    met_of (kind_of g.N.Node.clock g.N.Node.was g.N.Node.next) g.N.Node.plain
    (record { place = c.load.new.seat; fetched = c.taken_of-fetched.result }) (invariant_of-result g c) key keys
