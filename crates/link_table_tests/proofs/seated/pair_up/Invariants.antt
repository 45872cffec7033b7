use Rattle.std.specs.Prelude.{length, drop}
use Rattle.std.proofs.Common.{◌≡◌}
use Rattle.link_table_tests.specs.Following.{AreSeated}
use Rattle.link_table_tests.proofs.seated.pair_up.Given as goal

abbrev pub invariant-loop-player : goal.invariant-loop-player
invariant-loop-player l = record {
  seats : l.seats.items ≡ drop l.player l.fn.seats.items;
  made : AreSeated l.shared (length l.cut.consoles) l.player l.consoles.items;
}
