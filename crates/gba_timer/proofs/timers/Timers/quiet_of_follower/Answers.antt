use Rattle.std.proofs.Common.{◌≡◌, ap, arith, sym, ◌∙◌}
use Rattle.gba_terms.specs.Bits.{bit}
use Rattle.gba_timer.specs.Quiet.{quiet_of}
use Rattle.gba_timer.proofs.Silence.{all-quiet, goes-past, mark-at, stops-here}
use Rattle.gba_timer.proofs.timers.Timers.quiet_of_follower.Goals as goal

pub skip-requires-clause-quiet : goal.skip-requires-clause-quiet
skip-requires-clause-quiet c = c.quiet-quiet.ensures.all c.quiet-quiet.result (omega arith)

pub returns-then-left-quiet-clause-value : goal.returns-then-left-quiet-clause-value
unfolding quiet_of
returns-then-left-quiet-clause-value c =
    let quiet = c.quiet-quiet.ensures.value in
    let all =
    all-quiet 512 c.args.timer c.loop-left.left c.loop-left.timers (omega (arith, quiet, c.if-left-quiet.true)) in
    omega (arith, c.loop-left.invariant.0, c.loop-left.invariant.1, all)

pub returns-then-bit-clause-value : goal.returns-then-bit-clause-value
unfolding quiet_of
returns-then-bit-clause-value c =
    let read =
    sym (mark-at c.args.timer c.skip.new.self c.requires)
    ∙ ap (λ m. bit m c.args.timer) (sym (c.from.ensures ∙ c.cycle.ensures.mark))
    ∙ sym c.bit.ensures in
    let stops =
    stops-here 512 c.args.timer c.loop-left.left c.quiet-quiet.result c.loop-left.timers c.skip.new.self
    c.quiet-quiet.ensures.value c.if-left-quiet.false c.skip.ensures
    (read ∙ c.if-bit.true) in
    omega (arith, c.loop-left.invariant.0, c.loop-left.invariant.1, c.if-left-quiet.false, stops)

pub loop-left-preserved : goal.loop-left-preserved
loop-left-preserved c =
    let read =
    sym (mark-at c.args.timer c.skip.new.self c.requires)
    ∙ ap (λ m. bit m c.args.timer) (sym (c.from.ensures ∙ c.cycle.ensures.mark))
    ∙ sym c.bit.ensures in
    let goes =
    goes-past 512 c.args.timer c.loop-left.left c.quiet-quiet.result c.loop-left.timers c.skip.new.self c.cycle.new.self
    c.quiet-quiet.ensures.value c.if-left-quiet.false c.skip.ensures
    (read ∙ c.if-bit.false) c.cycle.ensures.timers in (
      omega (arith, c.loop-left.invariant.0, c.loop-left.invariant.1, c.if-left-quiet.false, goes),
      omega (arith, c.loop-left.invariant.1),
    )

pub returns-clause-value : goal.returns-clause-value
unfolding quiet_of
returns-clause-value c =
    let over : c.loop-left.left ≡ 0 = omega (arith, c.loop-left-test.false) in
    let none = all-quiet 512 c.args.timer c.loop-left.left c.loop-left.timers (omega (arith, over)) in
    omega (arith, c.loop-left.invariant.0, over, none)
