use Rattle.std.proofs.Common.{◌≡◌, drop}
use Rattle.gba_console.specs.Step.{all_learned}
use Rattle.gba_console.proofs.hearing.learn_all.Given as goal

-- the signals that are left lead to the same core
abbrev pub invariant-loop-one : goal.invariant-loop-one
invariant-loop-one l = all_learned (drop l.one-index l.due) l.core ≡ all_learned l.due l.fn.core
