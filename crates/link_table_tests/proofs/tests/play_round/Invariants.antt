use Rattle.std.proofs.Common.{◌≡◌}
use Rattle.link_table_tests.proofs.tests.play_round.Given as goal

abbrev pub invariant-loop-player : goal.invariant-loop-player
invariant-loop-player g l = l.consoles ≡ l.fn.consoles
