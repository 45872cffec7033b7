use Rattle.std.proofs.Common.{◌+◌, arith, sym, ◌∙◌, ap, take, get_or}
use Rattle.std.proofs.lemmas.List.{take_more, take_all}
use Rattle.link_order.specs.Order.{from}
use Rattle.link_order.specs.Due.{due}
use Rattle.link_node.specs.Delays.{hop_of}
use Rattle.link_core.proofs.Readings.{due_gathers, due_of_none, no_signal}
use Rattle.link_core.proofs.signals.gather.Goals as goal

pub loop-one-init : goal.loop-one-init
loop-one-init c = record {
  due_so_far = λ count senders. c.clear.ensures.items
      ∙ sym (due_of_none (hop_of c.args.delays.now) c.args.player c.args.was c.args.clock count);
  few = omega arith;
  room = omega arith;
}

pub loop-one-preserved : goal.loop-one-preserved
loop-one-preserved c = record {
  due_so_far = λ count senders.
      due_gathers (hop_of c.args.delays.now) (take c.loop-one.one-index c.args.sent.now)
      (take (c.loop-one.one-index + 1) c.args.sent.now)
      (get_or c.args.sent.now c.loop-one.one-index no_signal)
      c.args.player c.args.was c.args.clock count c.loop-one.list.items c.gather_one.new.list.items
      (take_more c.args.sent.now c.loop-one.one-index no_signal (omega arith))
      (senders c.loop-one.one-index no_signal (omega arith))
      (c.loop-one.invariant.due_so_far count senders)
      c.gather_one.ensures.takes c.gather_one.ensures.leaves;
  few = omega arith;
  room = omega arith;
}

pub returns-clause-due : goal.returns-clause-due
returns-clause-due c count senders =
    c.loop-one.invariant.due_so_far count senders
    ∙ ap (λ (t : _). due (hop_of c.args.delays.now) (λ j. from j t) c.args.player c.args.was c.args.clock count)
    (take_all c.loop-one.one-index c.args.sent.now (omega arith))
