use Rattle.std.proofs.Common.{ℕ, ◌≡◌, ◌<◌, get_or}
use Rattle.std.specs.Prelude.{false}
use Rattle.link_order.specs.declared.sent.Sent.{Sent}
use Rattle.link_order.specs.Order.{is_before, clock_of, sender_of}
use Rattle.link_core.proofs.signals.index_of_sent.Given as goal

abbrev pub invariant-loop-i : goal.invariant-loop-i
invariant-loop-i l = (k : ℕ) (d : Sent) → k < l.i → is_before clock_of sender_of l.one (get_or l.list k d) ≡ false
