use Rattle.std.proofs.Common.{◌-◌, ◌++◌, ◌∙◌, ap, arith}
use Rattle.gba_freeze.specs.StepLine.{word_text}
use Rattle.gba_freeze.proofs.Registers.{added, none_left}
use Rattle.gba_freeze.proofs.step.add_sixteen.Goals as goal

pub loop-number-preserved : goal.loop-number-preserved
loop-number-preserved c =
    added c.loop-number.into.items c.add_word.new.into.items _ c.loop-number.number c.args.registers.now
    c.loop-number-test.true c.loop-number.invariant
    (c.in_ok-add_word.ensures ∙ ap (λ n. c.loop-number.into.items ++ word_text n) c.get.ensures)

pub returns : goal.returns
returns c =
    none_left c.loop-number.into.items _ c.loop-number.number (16 - c.loop-number.number) c.args.registers.now
    (omega (arith, c.loop-number-test.false)) c.loop-number.invariant
