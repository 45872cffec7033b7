use Rattle.std.proofs.Common.{arith, refl, inl, inr, sym, ◌∙◌}
use Rattle.std.specs.Prelude.{length}
use Rattle.link_order.specs.Order.{clock_of, sender_of}
use Rattle.link_core.proofs.Readings.{insert-place}
use Rattle.link_core.proofs.signals.index_of_sent.Goals as goal

pub returns-then-is_sent_before-clause-placed : goal.returns-then-is_sent_before-clause-placed
returns-then-is_sent_before-clause-placed c =
    insert-place clock_of sender_of c.args.one.now c.args.list.now c.loop-i.i (omega arith) c.loop-i.invariant
    (inr (_, sym c.is_sent_before.ensures ∙ c.if-is_sent_before.true))

pub returns-clause-placed : goal.returns-clause-placed
returns-clause-placed c =
    insert-place clock_of sender_of c.args.one.now c.args.list.now (length c.args.list.now) (omega arith)
    (λ k d less. c.loop-i.invariant k d (omega arith)) (inl refl)
