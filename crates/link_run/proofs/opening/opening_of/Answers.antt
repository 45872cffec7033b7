use Rattle.std.proofs.Common.{◌+◌, arith, sym, ◌∙◌, ap, take, get_or}
use Rattle.std.proofs.lemmas.List.{take_more, take_all}
use Rattle.std.specs.Prelude.{length}
use Rattle.link_order.specs.Order.{from}
use Rattle.link_order.specs.Due.{waiting}
use Rattle.link_node.specs.Delays.{hop_of}
use Rattle.link_core.proofs.Readings.{no_signal}
use Rattle.link_run.proofs.Openings.{nothing_waits, one_more_waits}
use Rattle.link_run.proofs.opening.opening_of.Goals as goal

pub loop-one-init : goal.loop-one-init
loop-one-init c = record {
  so_far = λ count senders. c.in_ok-inbox.ensures
      ∙ sym (nothing_waits (hop_of c.args.delays.now) c.args.player c.args.was count);
  few = omega (arith, ap length c.in_ok-inbox.ensures);
}

pub loop-one-preserved : goal.loop-one-preserved
loop-one-preserved c = record {
  so_far = λ count senders.
      one_more_waits (hop_of c.args.delays.now) (take c.loop-one.one-index c.args.sent.now)
      (take (c.loop-one.one-index + 1) c.args.sent.now) (get_or c.args.sent.now c.loop-one.one-index no_signal)
      c.args.player c.args.was count c.loop-one.inbox.waits c.put_one.new.inbox.waits
      (take_more c.args.sent.now c.loop-one.one-index no_signal (omega arith))
      (senders c.loop-one.one-index no_signal (omega arith)) (c.loop-one.invariant.so_far count senders)
      c.put_one.ensures.takes c.put_one.ensures.leaves;
  few = omega arith;
}

pub returns : goal.returns
returns c count senders =
    c.into_waiting.ensures ∙ c.loop-one.invariant.so_far count senders
    ∙ ap (λ (t : _). waiting (hop_of c.args.delays.now) (λ j. from j t) c.args.player c.args.was count)
    (take_all c.loop-one.one-index c.args.sent.now (omega arith))
