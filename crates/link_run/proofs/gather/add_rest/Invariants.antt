use Rattle.std.proofs.Common.{ℕ, ◌≡◌, ◌≢◌, ◌-◌, ◌≤◌}
use Rattle.std.specs.Prelude.{[], ◌∷◌, length, slice_index}
use Rattle.link_order.specs.NodeKind.{kind_of}
use Rattle.link_node.specs.Delays.{hop_of}
use Rattle.link_table.specs.declared.key.Key.{Key}
use Rattle.link_table.specs.Text.{script_of}
use Rattle.link_table.specs.Uniting.{pair_place}
use Rattle.link_table.specs.Joining.{with_fetched}
use Rattle.link_run.specs.Adding.{Adding, RestOf, IsRest, sent_at}
use Rattle.link_run.proofs.gather.add_rest.Given as goal

abbrev pub invariant-loop-signal : goal.invariant-loop-signal
invariant-loop-signal g l = record {
  same : l.joined ≡ with_fetched l.fn.joined l.joined.fetched;
  wide : length l.joined.fetched ≡ 16;
  others : (pair : ℕ) → pair ≢ pair_place l.player l.peer
      → slice_index l.joined.fetched pair ≡ slice_index l.fn.joined.fetched pair;
  delays : l.shell.delays ≡ l.fn.shell.delays;
  more : slice_index l.fn.joined.fetched (pair_place l.player l.peer)
      ≤ slice_index l.joined.fetched (pair_place l.player l.peer);
  adding : (key : Key g.row.N.Denot) → l.fn.joined.key ≡ key ∷ []
      → Adding (RestOf (kind_of g.N.Node.clock g.N.Node.was g.N.Node.next) g.N.Node.plain key l.fn.joined
      l.player l.peer l.fn.shell.delays l.was)
      (IsRest (script_of (kind_of g.N.Node.clock g.N.Node.was g.N.Node.next) g.N.Node.plain key) l.peer
      (hop_of l.fn.shell.delays l.peer l.player) (slice_index l.fn.joined.fetched (pair_place l.player l.peer))
      (slice_index l.joined.fetched (pair_place l.player l.peer)) l.was)
      l.fn.shell.sent l.shell.sent;
}

abbrev pub decreases-loop-signal : goal.decreases-loop-signal
decreases-loop-signal g l = sent_at l.fn.joined.made l.peer - slice_index l.joined.fetched (pair_place l.player l.peer)
