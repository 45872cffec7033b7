use Rattle.std.proofs.Common.{◌≡◌, ◌-◌, ◌++◌}
use Rattle.gba_freeze.specs.StepLine.{registers_from}
use Rattle.gba_freeze.proofs.step.add_sixteen.Given as goal

-- what is added and what is still to come are all registers
abbrev pub invariant-loop-number : goal.invariant-loop-number
invariant-loop-number l =
    l.into.items ++ registers_from (16 - l.number) l.number l.registers
    ≡ l.fn.into.items ++ registers_from 16 0 l.registers
