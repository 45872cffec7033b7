use Rattle.std.proofs.Common.{◌++◌, List, ℕ, length, sym, ap, ◌∙◌, arith}
use Rattle.std.proofs.lemmas.List.{append-nil}
use Rattle.gba_frozen_text.proofs.Printing.{grown}
use Rattle.gba_snapshot.specs.File.{signals_text}
use Rattle.gba_snapshot.proofs.Lines.{signal-early, signals-more, signals-none}
use Rattle.link_order.specs.declared.sent.Sent.{Sent}
use Rattle.gba_snapshot.proofs.file.add_signals.Goals as goal

pub add_signal-requires-clause-clock : goal.add_signal-requires-clause-clock
add_signal-requires-clause-clock c =
    signal-early c.args.cut.now c.sent-sent.result.now c.nodes-nodes.result.now c.loop-place.place _
    c.index-nodes-one.result c.sent-sent.ensures.value c.nodes-nodes.ensures.value c.nodes-nodes.ensures.sound
    c.loop-place-test.true c.index-nodes-one.is
    (omega (arith, c.clock-later.ensures.value, c.clock-later.ensures.small))

pub loop-place-preserved : goal.loop-place-preserved
loop-place-preserved c =
    let i = c.loop-place.place in
    record {
      items = grown _ _ _ _ _ _ c.add_signal.ensures.items (signals-more c.sent-sent.result.now i _ (omega arith))
          c.loop-place.invariant.items;
      len = omega arith;
      room = omega arith;
    }

pub returns-clause-items : goal.returns-clause-items
returns-clause-items c =
    sym (append-nil c.loop-place.into.items)
    ∙ ap (λ (t : List ℕ). c.loop-place.into.items ++ t)
    (sym (signals-none c.sent-sent.result.now c.loop-place.place (omega arith)))
    ∙ c.loop-place.invariant.items
    ∙ ap (λ (sent : List Sent). c.args.into.now.items ++ signals_text sent) c.sent-sent.ensures.value

pub returns-clause-len : goal.returns-clause-len
returns-clause-len c = omega (arith, ap length c.sent-sent.ensures.value)
