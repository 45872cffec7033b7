use Rattle.std.proofs.Common.{◌≡◌}
use Rattle.gba_thaw_tests.proofs.whole.set_numbers.Given as goal

abbrev pub invariant-loop-field : goal.invariant-loop-field
invariant-loop-field g l = l.loose.memories ≡ l.fn.loose.memories
