use Rattle.std.proofs.Common.{◌≡◌}
use Rattle.link_table_tests.proofs.tests.play_all.Given as goal

abbrev pub invariant-loop-round : goal.invariant-loop-round
invariant-loop-round g l = l.consoles ≡ l.fn.consoles
