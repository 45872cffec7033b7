use Rattle.std.proofs.Common.{◌≡◌, ◌+◌, true, false, refl, sym, subst, arith}
use Rattle.gba_console.specs.Alone.{console_kind}
use Rattle.gba_console.specs.Machine.{without_limit}
use Rattle.gba_trace.specs.Trace.{after_steps, goes_on}
use Rattle.gba_trace.specs.Way.{Machines, Shows}
use Rattle.link_order.specs.Cut.{clock_at, plain_cut}
use Rattle.link_order.specs.GlobalOrder.{least}
use Rattle.gba_trace.proofs.Showing.{clock-shown}
use Rattle.gba_trace.proofs.Stretches.{ends, goes, one-step, stays}
use Rattle.gba_trace.proofs.tracing.skip.Goals as goal

pub row-init : goal.row-init
unfolding after_steps
row-init c = record { room = c.requires.room; shows = λ plain shows. shows }

pub row-preserved : goal.row-preserved
row-preserved c = record {
  room = c.step.ensures.room;
  shows = λ plain shows.
      let until = c.args.until in
      let n = c.row.counter in
      let cut = c.row.way.cut in
      let at = after_steps n until plain in
      let held = c.row.invariant.shows plain shows in
      let same = clock-shown c.shorn_unseen.ensures.unseen c.shorn_unseen.ensures.tells c.steps.ensures at cut held in
      let on : goes_on until at ≡ true =
      goes (clock_at console_kind (plain_cut without_limit cut) (least console_kind (plain_cut without_limit cut)))
      until at same (c.goes_on.ensures.below c.if-not-goes_on.false) in
      subst (λ (one : Machines). Shows one c.step.new.self.cut) (sym (one-step until plain n (n + 1) refl on))
      (c.step.ensures.shows at (c.with_room-way.ensures.shows at held));
}

pub returns-then-not-goes_on-clause-shows : goal.returns-then-not-goes_on-clause-shows
returns-then-not-goes_on-clause-shows c = λ plain shows.
    let until = c.args.until in
    let n = c.row.counter in
    let cut = c.row.way.cut in
    let at = after_steps n until plain in
    let held = c.row.invariant.shows plain shows in
    let same = clock-shown c.shorn_unseen.ensures.unseen c.shorn_unseen.ensures.tells c.steps.ensures at cut held in
    let over : goes_on until at ≡ false =
    ends (clock_at console_kind (plain_cut without_limit cut) (least console_kind (plain_cut without_limit cut)))
    until at same (c.goes_on.ensures.over c.if-not-goes_on.true) in
    subst (λ (one : Machines). Shows one cut) (sym (stays until plain n c.args.count (omega arith) over)) held
