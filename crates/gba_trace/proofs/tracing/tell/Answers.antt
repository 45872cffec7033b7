use Rattle.std.proofs.Common.{◌≡◌, ◌+◌, ◌++◌, ◌∙◌, ℕ, List, true, false, ap, refl, sym, subst, arith}
use Rattle.gba_console.specs.Alone.{console_kind}
use Rattle.gba_console.specs.Machine.{without_limit}
use Rattle.gba_trace.specs.Trace.{after_steps, count_from, goes_on, lines_from, next_line}
use Rattle.gba_trace.specs.Way.{Machines, Shows}
use Rattle.link_order.specs.Cut.{clock_at, plain_cut}
use Rattle.link_order.specs.GlobalOrder.{least}
use Rattle.gba_trace.proofs.Showing.{clock-shown}
use Rattle.gba_trace.proofs.Stretches.{ends, goes, no-count, no-lines, one-count, one-line, one-step}
use Rattle.gba_trace.proofs.tracing.tell.Goals as goal

pub row-init : goal.row-init
unfolding after_steps lines_from count_from
row-init c = record {
  room = c.requires.room;
  shows = λ plain shows. shows;
  text = λ plain shows. c.in_ok-text.ensures.items;
  lines = λ plain shows. refl;
  few = omega arith;
}

pub row-preserved : goal.row-preserved
row-preserved c = record {
  room = c.step_told.ensures.room;
  shows = λ plain shows.
      let at = after_steps c.row.counter c.args.until plain in
      subst (λ (one : Machines). Shows one c.step_told.new.self.cut)
      (sym (one-step c.args.until plain c.row.counter (c.row.counter + 1) refl (on plain shows)))
      (c.step_told.ensures.shows at (c.with_room-way.ensures.shows at (c.row.invariant.shows plain shows)));
  text = λ plain shows.
      let at = after_steps c.row.counter c.args.until plain in
      c.in_ok-step_told.ensures.line at (c.with_room-way.ensures.shows at (c.row.invariant.shows plain shows))
      ∙ ap (λ (text : List ℕ). text ++ next_line at) (c.row.invariant.text plain shows)
      ∙ sym (one-line c.args.until plain c.row.counter (c.row.counter + 1) refl (on plain shows));
  lines = λ plain shows.
      ap (λ (some : ℕ). some + 1) (c.row.invariant.lines plain shows)
      ∙ sym (one-count c.args.until plain c.row.counter (c.row.counter + 1) refl (on plain shows));
  few = omega (arith, c.row.invariant.few);
} where
  cut : Machines
  cut = c.row.way.cut

  on : (plain : Machines) → Shows plain c.args.way.cut
      → goes_on c.args.until (after_steps c.row.counter c.args.until plain) ≡ true
  on plain shows =
      let at = after_steps c.row.counter c.args.until plain in
      let held = c.row.invariant.shows plain shows in
      let same = clock-shown c.shorn_unseen.ensures.unseen c.shorn_unseen.ensures.tells c.steps.ensures at cut held in
      goes (clock_at console_kind (plain_cut without_limit cut) (least console_kind (plain_cut without_limit cut)))
      c.args.until at same (c.goes_on.ensures.below c.if-not-goes_on.false)

pub returns-then-not-goes_on-clause-text : goal.returns-then-not-goes_on-clause-text
returns-then-not-goes_on-clause-text c = λ plain shows.
    let until = c.args.until in
    let n = c.row.counter in
    let cut = c.row.way.cut in
    let at = after_steps n until plain in
    let same = clock-shown c.shorn_unseen.ensures.unseen c.shorn_unseen.ensures.tells c.steps.ensures at cut
    (c.row.invariant.shows plain shows) in
    let over : goes_on until at ≡ false =
    ends (clock_at console_kind (plain_cut without_limit cut) (least console_kind (plain_cut without_limit cut)))
    until at same (c.goes_on.ensures.over c.if-not-goes_on.true) in
    c.row.invariant.text plain shows ∙ sym (no-lines until plain n c.args.count (omega arith) over)

pub returns-then-not-goes_on-clause-lines : goal.returns-then-not-goes_on-clause-lines
returns-then-not-goes_on-clause-lines c = λ plain shows.
    let until = c.args.until in
    let n = c.row.counter in
    let cut = c.row.way.cut in
    let at = after_steps n until plain in
    let same = clock-shown c.shorn_unseen.ensures.unseen c.shorn_unseen.ensures.tells c.steps.ensures at cut
    (c.row.invariant.shows plain shows) in
    let over : goes_on until at ≡ false =
    ends (clock_at console_kind (plain_cut without_limit cut) (least console_kind (plain_cut without_limit cut)))
    until at same (c.goes_on.ensures.over c.if-not-goes_on.true) in
    c.row.invariant.lines plain shows ∙ sym (no-count until plain n c.args.count (omega arith) over)
