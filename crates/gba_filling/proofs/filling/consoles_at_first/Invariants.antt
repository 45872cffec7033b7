use Rattle.std.proofs.Common.{◌≡◌, [], length}
use Rattle.gba_filling.specs.Consoles.{AreFilled}
use Rattle.gba_filling.proofs.filling.consoles_at_first.Given as goal

abbrev pub invariant-loop-player : goal.invariant-loop-player
invariant-loop-player l = record {
  count : length l.consoles.items ≡ l.player;
  filled : AreFilled l.setup [] l.consoles.items;
}
