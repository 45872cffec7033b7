use Rattle.std.proofs.Common.{◌≡◌}
use Rattle.link_table_tests.proofs.tests.catch_up.Given as goal

abbrev pub invariant-loop-number : goal.invariant-loop-number
invariant-loop-number g l = l.console ≡ l.fn.console
