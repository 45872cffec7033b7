use Rattle.std.proofs.Common.{◌≡◌, ◌≤◌}
use Rattle.std.specs.Prelude.{length}
use Rattle.link_table.specs.Uniting.{AreTaken}
use Rattle.link_table.proofs.joined.taken_of.Given as goal

abbrev pub invariant-loop-i : goal.invariant-loop-i
invariant-loop-i g l = record {
  kept : AreTaken l.seats l.fetched l.i;
  all : l.count ≡ length l.seats;
  few : l.count ≤ 4;
  wide : length l.fetched ≡ 16;
}
