use Rattle.std.proofs.Common.{◌∙◌, ap, arith, drop}
use Rattle.std.specs.Prelude.{◌+◌}
use Rattle.gba_io.specs.Core.{Core}
use Rattle.gba_console.specs.Step.{all_learned}
use Rattle.gba_console.proofs.Taking.{learned-all, learned-at}
use Rattle.gba_console.proofs.hearing.learn_all.Goals as goal

pub loop-one-preserved : goal.loop-one-preserved
loop-one-preserved c =
    let dues = c.args.due.now in
    let place = c.loop-one.one-index in
    let rest = drop (place + 1) dues in
    ap (λ (b : Core). all_learned rest b) c.learn.ensures
    ∙ learned-at dues place c.loop-one.core c.loop-one-test.true
    ∙ c.loop-one.invariant

pub returns : goal.returns
returns c =
    learned-all c.args.due.now c.loop-one.one-index c.loop-one.core (omega (arith, c.loop-one-test.false))
    ∙ c.loop-one.invariant
