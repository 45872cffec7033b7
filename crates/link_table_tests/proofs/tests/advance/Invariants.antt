use Rattle.std.proofs.Common.{◌≡◌}
use Rattle.link_table_tests.proofs.tests.advance.Given as goal

abbrev pub invariant-loop-index : goal.invariant-loop-index
invariant-loop-index l = l.console ≡ l.fn.console
