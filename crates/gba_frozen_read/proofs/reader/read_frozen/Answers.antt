use Rattle.std.proofs.Common.{◌≡◌, true, false, Ok, Err, refl, ap, sym, ◌∙◌, arith}
use Rattle.std.proofs.lemmas.Bool.Decides.{nat_tests}
use Rattle.gba_text.specs.Steps.{taken}
use Rattle.gba_frozen.specs.Places.{is_slot}
use Rattle.gba_frozen.specs.Reading.{is_past, nothing_read, read_at}
use Rattle.gba_frozen.specs.Views.{said_value}
use Rattle.gba_frozen.specs.declared.places.Place.{Place}
use Rattle.gba_frozen_read.specs.Thawed.{IsNext, IsThawed, with_next}
use Rattle.gba_frozen_read.proofs.Counting.{counted_all, counted_first, is_next}
use Rattle.gba_frozen_read.proofs.FedLines.{fed_few, fed_none}
use Rattle.gba_frozen_read.proofs.Steps.{begins, ends, ends_early, goes_on, is_long, refuses, said-there}
use Rattle.gba_frozen_read.proofs.reader.read_frozen.Goals as goal

pub returns-then-bytes-gt-LONGEST_FILE : goal.returns-then-bytes-gt-LONGEST_FILE
unfolding IsThawed
returns-then-bytes-gt-LONGEST_FILE g c whole_of =
    is_long g.T.Thawing.Whole c.args.setup.now c.args.bytes.now (omega arith) whole_of
    ∙ ap Err (sym c.refused.ensures)

pub loop-rest-init : goal.loop-rest-init
unfolding is_slot
loop-rest-init g c = record {
  place = refl;
  held = (
    nothing_read,
    c.requires.empty,
    refl,
    counted_first c.args.setup.now (omega arith),
    begins g.T.Thawing.Whole c.args.setup.now c.args.bytes.now,
  );
}

pub overflow_add-number : goal.overflow_add-number
overflow_add-number g c =
    omega (arith, fed_few c.args.bytes.now, c.loop-rest.invariant.held.4.count)

pub take-requires : goal.take-requires
take-requires g c =
    let d = c.loop-rest.invariant.held.0 in (
      d,
      c.loop-rest.invariant.held.1,
      is_next c.args.setup.now d c.loop-rest.at c.split_line.result.0.now c.read_next.new.at
          (said_value c.in-Ok.said) c.loop-rest.invariant.held.2 c.loop-rest.invariant.place
          c.loop-rest.invariant.held.3 c.in-Ok.ensures.line,
    )

pub loop-rest-preserved : goal.loop-rest-preserved
loop-rest-preserved g c =
    let setup = c.args.setup.now in
    let d = c.loop-rest.invariant.held.0 in
    let at = c.read_next.new.at in
    let said = said_value c.in-Ok.said in
    let read : read_at setup d.at c.split_line.result.0.now ≡ Ok (taken said at) =
    ap (λ (from : Place). read_at setup from c.split_line.result.0.now) c.loop-rest.invariant.held.2
    ∙ c.in-Ok.ensures.line in
    let next : IsNext setup d at said =
    is_next setup d c.loop-rest.at c.split_line.result.0.now at said c.loop-rest.invariant.held.2
    c.loop-rest.invariant.place c.loop-rest.invariant.held.3 c.in-Ok.ensures.line in
    record {
      place = c.read_next.ensures.place;
      held = (
        with_next at said d,
        c.take.ensures d c.loop-rest.invariant.held.1 next,
        said-there said (record d { at = at }),
        next.behind,
        goes_on g.T.Thawing.Whole setup c.args.bytes.now c.loop-rest.number c.loop-rest.rest.now
            c.split_line.result.1.now c.split_line.result.0.now d at said c.loop-rest.invariant.held.4
            c.split_line.ensures.line read,
      );
    }

pub returns-in-Err : goal.returns-in-Err
unfolding IsThawed
returns-in-Err g c whole_of =
    let setup = c.args.setup.now in
    let d = c.loop-rest.invariant.held.0 in
    let line = c.split_line.result.0.now in
    let read : read_at setup d.at line ≡ Err c.in-Err.kind =
    ap (λ (from : Place). read_at setup from line) c.loop-rest.invariant.held.2 ∙ c.in-Err.ensures.line in
    refuses g.T.Thawing.Whole setup c.args.bytes.now c.loop-rest.number c.loop-rest.rest.now
    c.split_line.result.1.now line d c.in-Err.kind (omega arith) c.loop-rest.invariant.held.4 c.split_line.ensures.line
    read whole_of
    ∙ ap Err (sym c.refused-in-Err.ensures)

pub overflow_add-number-then-not-is_over : goal.overflow_add-number-then-not-is_over
overflow_add-number-then-not-is_over g c =
    omega (arith, fed_few c.args.bytes.now, c.loop-rest.invariant.held.4.count)

pub returns-then-not-is_over : goal.returns-then-not-is_over
unfolding IsThawed
returns-then-not-is_over g c whole_of =
    let d = c.loop-rest.invariant.held.0 in
    let early : is_past d.at.slot ≡ false =
    ap (λ (at : Place). is_past at.slot) c.loop-rest.invariant.held.2 ∙ sym c.is_over.ensures ∙ c.if-not-is_over.true in
    ends_early g.T.Thawing.Whole c.args.setup.now c.args.bytes.now c.loop-rest.number c.loop-rest.rest.now d
    (omega arith) c.loop-rest.invariant.held.4 (fed_none c.loop-rest.rest.now (grind (arith, nat_tests))) early whole_of
    ∙ ap Err (sym c.refused-then-not-is_over.ensures)

pub returns : goal.returns
unfolding IsThawed
returns g c =
    let d = c.loop-rest.invariant.held.0 in
    let past : is_past d.at.slot ≡ true =
    ap (λ (at : Place). is_past at.slot) c.loop-rest.invariant.held.2 ∙ sym c.is_over.ensures
    ∙ c.if-not-is_over.false in (
      d,
      c.loop-rest.invariant.held.1,
      past,
      counted_all c.args.setup.now d c.loop-rest.invariant.held.3 past,
      ends g.T.Thawing.Whole c.args.setup.now c.args.bytes.now c.loop-rest.number
          c.loop-rest.rest.now d (omega arith) c.loop-rest.invariant.held.4
          (fed_none c.loop-rest.rest.now (grind (arith, nat_tests))) past,
    )
