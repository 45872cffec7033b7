use Rattle.std.proofs.Common.{◌≡◌}
use Rattle.link_table_tests.proofs.tests.steps.Given as goal

abbrev pub invariant-loop-index : goal.invariant-loop-index
invariant-loop-index g l = l.console ≡ l.fn.console
