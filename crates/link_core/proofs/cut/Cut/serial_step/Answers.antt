use Rattle.std.proofs.Common.{ℕ, ◌<◌, arith, sym, ap, ◌∙◌, subst}
use Rattle.std.specs.Prelude.{map, slice_index, length}
use Rattle.link_order.specs.NodeKind.{kind_of}
use Rattle.link_order.specs.Cut.{Cut, plain_cut, live}
use Rattle.link_order.specs.GlobalOrder.{least, step}
use Rattle.link_core.specs.Kept.{cut_of}
use Rattle.link_core.proofs.Keeping.{kept_few, due_may_go, turned_live, turned_kept}
use Rattle.link_core.proofs.Turns.{lawful, least_kept, told_known, turned_from}
use Rattle.link_core.proofs.cut.Cut.serial_step.Goals as goal

pub gather-requires : goal.gather-requires
gather-requires g c =
    let few = kept_few (kind_of g.N.Node.clock g.N.Node.was g.N.Node.next) g.N.Node.plain _ _ _ c.self.invariant in
    let same = ap length c.deref-4.ensures.value in
    omega (arith, few, same, c.self.invariant.room_of_due)

pub turn_of-signal-requires-clause-below : goal.turn_of-signal-requires-clause-below
turn_of-signal-requires-clause-below g c =
    let kind = kind_of g.N.Node.clock g.N.Node.was g.N.Node.next in
    let Below : Cut g.row.N.Denot → ℕ → Type 0 = λ (d : Cut g.row.N.Denot) (i : ℕ).
    slice_index (map g.N.Node.clock (map g.N.Node.plain d.consoles)) i
    < slice_index (map g.N.Node.bound d.consoles) i in
    let now : Cut g.row.N.Denot = cut_of c.self.inside.nodes.items record {
      delays = c.self.inside.delays;
      sent = c.self.inside.sent.items;
    } in
    let least_is = least_kept kind g.N.Node.plain now _ _ _ _ c.self.invariant c.deref.ensures.value
    c.least_of-i.ensures.value in
    subst (Below now) (sym least_is)
    (subst (λ (d : Cut g.row.N.Denot). Below d (least kind (plain_cut g.N.Node.plain d)))
    (sym c.self.view_is) c.requires)

pub turn_of-signal-requires-clause-ordered : goal.turn_of-signal-requires-clause-ordered
turn_of-signal-requires-clause-ordered g c =
    let kind = kind_of g.N.Node.clock g.N.Node.was g.N.Node.next in
    let least_is =
    least_kept kind g.N.Node.plain _ _ _ _ _ c.self.invariant c.deref.ensures.value c.least_of-i.ensures.value in
    let told = told_known kind g.N.Node.plain _ _ _ _ _ _ _ _ _ _ _ c.self.invariant c.deref-4.ensures.value
    c.deref-2.ensures.value c.was_of-was.ensures c.deref-3.ensures.value c.clock_of-clock.ensures.value
    c.gather.ensures.due c.deref-5.ensures.value in
    (due_may_go kind g.N.Node.plain _ _ _ _ _ c.self.invariant least_is told).0

pub turn_of-signal-requires-clause-taken : goal.turn_of-signal-requires-clause-taken
turn_of-signal-requires-clause-taken g c =
    let kind = kind_of g.N.Node.clock g.N.Node.was g.N.Node.next in
    let least_is =
    least_kept kind g.N.Node.plain _ _ _ _ _ c.self.invariant c.deref.ensures.value c.least_of-i.ensures.value in
    let told = told_known kind g.N.Node.plain _ _ _ _ _ _ _ _ _ _ _ c.self.invariant c.deref-4.ensures.value
    c.deref-2.ensures.value c.was_of-was.ensures c.deref-3.ensures.value c.clock_of-clock.ensures.value
    c.gather.ensures.due c.deref-5.ensures.value in
    (due_may_go kind g.N.Node.plain _ _ _ _ _ c.self.invariant least_is told).1

pub join_signal-requires : goal.join_signal-requires
join_signal-requires g c =
    let few = kept_few (kind_of g.N.Node.clock g.N.Node.was g.N.Node.next) g.N.Node.plain _ _ _ c.self.invariant in
    omega (arith, few, c.self.inside.sent.ok, c.self.invariant.room_of_sent)

pub invariant_of-self : goal.invariant_of-self
invariant_of-self g c =
    let kind = kind_of g.N.Node.clock g.N.Node.was g.N.Node.next in
    let law = lawful g.N.Node.clock g.N.Node.was g.N.Node.next g.met.N.Node.rises g.met.N.Node.short g.met.N.Node.moves
    g.met.N.Node.bears g.met.N.Node.fits in
    let least_is =
    least_kept kind g.N.Node.plain _ _ _ _ _ c.self.invariant c.deref.ensures.value c.least_of-i.ensures.value in
    let told = told_known kind g.N.Node.plain _ _ _ _ _ _ _ _ _ _ _ c.self.invariant c.deref-4.ensures.value
    c.deref-2.ensures.value c.was_of-was.ensures c.deref-3.ensures.value c.clock_of-clock.ensures.value
    c.gather.ensures.due c.deref-5.ensures.value in
    let turned = turned_from kind g.N.Node.plain _ _ _ _ _ _ _ _ least_is told c.turn_of-signal.ensures.node
    c.turn_of-signal.ensures.signal c.deref-6.ensures.value c.join_signal.ensures.items c.drop_dead.ensures.items in
    turned_kept kind law g.N.Node.plain _ _ _ _ _ _ _ _ _ _ c.self.invariant (omega arith) (omega arith) turned

pub returns-clause-step : goal.returns-clause-step
returns-clause-step g c =
    let kind = kind_of g.N.Node.clock g.N.Node.was g.N.Node.next in
    let law = lawful g.N.Node.clock g.N.Node.was g.N.Node.next g.met.N.Node.rises g.met.N.Node.short g.met.N.Node.moves
    g.met.N.Node.bears g.met.N.Node.fits in
    let least_is =
    least_kept kind g.N.Node.plain _ _ _ _ _ c.self.invariant c.deref.ensures.value c.least_of-i.ensures.value in
    let told = told_known kind g.N.Node.plain _ _ _ _ _ _ _ _ _ _ _ c.self.invariant c.deref-4.ensures.value
    c.deref-2.ensures.value c.was_of-was.ensures c.deref-3.ensures.value c.clock_of-clock.ensures.value
    c.gather.ensures.due c.deref-5.ensures.value in
    let turned = turned_from kind g.N.Node.plain _ _ _ _ _ _ _ _ least_is told c.turn_of-signal.ensures.node
    c.turn_of-signal.ensures.signal c.deref-6.ensures.value c.join_signal.ensures.items c.drop_dead.ensures.items in
    turned_live kind law g.N.Node.plain _ _ _ _ _ _ c.self.invariant.cable.some_console turned
    ∙ ap (λ (d : Cut g.row.N.Denot). live kind (step kind (plain_cut g.N.Node.plain d))) c.self.view_is
