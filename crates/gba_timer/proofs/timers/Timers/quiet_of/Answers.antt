use Rattle.std.proofs.Common.{ap, sym, ◌∙◌}
use Rattle.gba_timer.specs.Skipping.{follows, own_quiet}
use Rattle.gba_timer.proofs.Silence.{quiet_of-is}
use Rattle.gba_timer.proofs.timers.Timers.quiet_of.Goals as goal

pub returns-else-follows-clause-value : goal.returns-else-follows-clause-value
returns-else-follows-clause-value c =
    let one = c.timer-one.ensures in
    let alone = ap follows (sym one) ∙ sym c.follows.ensures ∙ c.if-follows.false in
    c.quiet_within.ensures.value ∙ ap (own_quiet 512) one ∙ quiet_of-is c.args.timer c.args.self.now alone
