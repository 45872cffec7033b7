use Rattle.std.proofs.Common.{◌≡◌}
use Rattle.std.specs.Prelude.{length}
use Rattle.link_table_tests.proofs.tests.rest_of.Given as goal

abbrev pub invariant-loop-number : goal.invariant-loop-number
invariant-loop-number g l = record { table : l.joined.table ≡ l.shared; two : length l.joined.made ≡ 2 }
