use Rattle.std.proofs.Common.{◌≡◌}
use Rattle.gba_timer.specs.Timers.{after_cycles, with_marks}
use Rattle.gba_timer.proofs.timers.Timers.advance.Given as goal

abbrev pub invariant-loop-count : goal.invariant-loop-count
invariant-loop-count l = (l.self ≡ after_cycles l.count l.fn.self) × (l.mark ≡ with_marks l.count l.fn.self l.fn.mark)
