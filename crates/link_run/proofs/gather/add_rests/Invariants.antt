use Rattle.std.proofs.Common.{ℕ, ◌≡◌, ◌≤◌}
use Rattle.std.specs.Prelude.{[], ◌∷◌, length, slice_index}
use Rattle.link_order.specs.NodeKind.{kind_of}
use Rattle.link_table.specs.declared.key.Key.{Key}
use Rattle.link_table.specs.Joining.{with_fetched}
use Rattle.link_run.specs.Adding.{Adding, PairsRest}
use Rattle.link_run.proofs.gather.add_rests.Given as goal

abbrev pub invariant-loop-pair : goal.invariant-loop-pair
invariant-loop-pair g l = record {
  same : l.joined ≡ with_fetched l.fn.joined l.joined.fetched;
  wide : length l.joined.fetched ≡ 16;
  later : (other : ℕ) → l.pair ≤ other → slice_index l.joined.fetched other ≡ slice_index l.fn.joined.fetched other;
  delays : l.shell.delays ≡ l.fn.shell.delays;
  adding : (key : Key g.row.N.Denot) → l.fn.joined.key ≡ key ∷ []
      → Adding (PairsRest (kind_of g.N.Node.clock g.N.Node.was g.N.Node.next) g.N.Node.plain key l.fn.joined l.nodes
      l.fn.shell.delays 16)
      (PairsRest (kind_of g.N.Node.clock g.N.Node.was g.N.Node.next) g.N.Node.plain key l.fn.joined l.nodes
      l.fn.shell.delays l.pair)
      l.fn.shell.sent l.shell.sent;
}
