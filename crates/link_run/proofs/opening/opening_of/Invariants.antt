use Rattle.std.proofs.Common.{ℕ, ◌≡◌, ◌<◌, ◌≤◌, take}
use Rattle.std.specs.Prelude.{All, length}
use Rattle.link_order.specs.declared.sent.Sent.{Sent}
use Rattle.link_order.specs.Order.{from}
use Rattle.link_order.specs.Due.{waiting}
use Rattle.link_node.specs.Delays.{hop_of}
use Rattle.link_run.proofs.opening.opening_of.Given as goal

abbrev pub invariant-loop-one : goal.invariant-loop-one
invariant-loop-one l = record {
  so_far : (count : ℕ) → All (λ (one : Sent). one.sender < count) l.sent
      → l.inbox.waits ≡ waiting (hop_of l.delays) (λ j. from j (take l.one-index l.sent)) l.player l.was count;
  few : length l.inbox.waits ≤ l.one-index;
}
