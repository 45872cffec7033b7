use Rattle.std.proofs.Common.{◌∙◌, sym}
use Rattle.gba_console.proofs.On.{stepped-is-off, stepped-is-on, told-is-off, told-is-on}
use Rattle.gba_console.proofs.Console.step_fully.Goals as goal

pub returns-then-is_off-clause-step : goal.returns-then-is_off-clause-step
returns-then-is_off-clause-step c =
    c.step_off.ensures ∙ sym (stepped-is-off c.args.due.now c.args.self.now (c.is_off.ensures.off c.if-is_off.true))

pub returns-then-is_off-clause-signal : goal.returns-then-is_off-clause-signal
returns-then-is_off-clause-signal c =
    sym (told-is-off c.args.due.now c.args.self.now (c.is_off.ensures.off c.if-is_off.true))

pub returns-clause-step : goal.returns-clause-step
returns-clause-step c =
    c.step_on.ensures.step ∙ sym (stepped-is-on c.args.due.now c.args.self.now (c.is_off.ensures.on c.if-is_off.false))

pub returns-clause-signal : goal.returns-clause-signal
returns-clause-signal c =
    c.step_on.ensures.signal ∙ sym (told-is-on c.args.due.now c.args.self.now (c.is_off.ensures.on c.if-is_off.false))
