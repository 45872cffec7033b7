use Rattle.std.proofs.Common.{ℕ, ◌≡◌, ◌<◌, ◌≤◌, take}
use Rattle.std.specs.Prelude.{All}
use Rattle.std.specs.Vec.{vec_len, vec_capacity}
use Rattle.link_order.specs.declared.sent.Sent.{Sent}
use Rattle.link_order.specs.Order.{from}
use Rattle.link_order.specs.Due.{due}
use Rattle.link_node.specs.Delays.{hop_of}
use Rattle.link_core.proofs.signals.gather.Given as goal

abbrev pub invariant-loop-one : goal.invariant-loop-one
invariant-loop-one l = record {
  due_so_far : (count : ℕ) → All (λ (one : Sent). one.sender < count) l.sent
      → l.list.items ≡ due (hop_of l.delays) (λ j. from j (take l.one-index l.sent)) l.player l.was l.clock count;
  few : vec_len l.list ≤ l.one-index;
  room : vec_capacity l.fn.list ≤ vec_capacity l.list;
}
