use Rattle.std.proofs.Common.{◌∙◌, ap, sym, subst, arith, drop}
use Rattle.std.specs.Prelude.{◌+◌}
use Rattle.gba_io.specs.declared.board.Board.{Board}
use Rattle.gba_console.specs.Step.{all_taken}
use Rattle.gba_console.specs.Waiting.{CanTakeAll}
use Rattle.gba_console.proofs.Taking.{can-at, taken-all, taken-at}
use Rattle.gba_console.proofs.hearing.take_all.Goals as goal

pub take-requires : goal.take-requires
take-requires c =
    let can =
    (can-at c.args.due.now c.loop-one.one-index c.loop-one.board c.loop-one-test.true c.loop-one.invariant.1).0 in
    record { arrival = can.early; until = can.fits.few; in_flight = can.in_flight; room = can.room }

pub loop-one-preserved : goal.loop-one-preserved
loop-one-preserved c =
    let dues = c.args.due.now in
    let place = c.loop-one.one-index in
    let before = c.loop-one.board in
    let rest = drop (place + 1) dues in
    let can = can-at dues place before c.loop-one-test.true c.loop-one.invariant.1 in (
      ap (λ (b : Board). all_taken rest b) c.take.ensures
          ∙ taken-at dues place before c.loop-one-test.true
          ∙ c.loop-one.invariant.0,
      subst (λ (b : Board). CanTakeAll rest b) (sym c.take.ensures) can.1,
    )

pub returns : goal.returns
returns c =
    taken-all c.args.due.now c.loop-one.one-index c.loop-one.board (omega (arith, c.loop-one-test.false))
    ∙ c.loop-one.invariant.0
