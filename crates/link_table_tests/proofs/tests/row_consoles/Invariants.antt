use Rattle.std.specs.Prelude.{All}
use Rattle.std.specs.Vec.{vec_len}
use Rattle.std.proofs.Common.{◌≡◌}
use Rattle.link_table_tests.proofs.tests.row_consoles.Given as goal

abbrev pub invariant-loop-player : goal.invariant-loop-player
invariant-loop-player g l = record {
  count : vec_len l.nodes ≡ l.player;
  fresh : All (λ t. (t.clock ≡ 0) × (t.was ≡ 0)) l.nodes.items;
  limits : All (λ t. t.limit ≡ 6000) l.nodes.items;
}
