use Rattle.std.proofs.Common.{arith, sym, ap, ◌∙◌}
use Rattle.std.specs.Prelude.{map}
use Rattle.link_core.proofs.Readings.{read-node}
use Rattle.link_table.proofs.Openings.{clock_written}
use Rattle.link_table.proofs.opening.opening_words.Goals as goal

pub loop-i-preserved : goal.loop-i-preserved
loop-i-preserved g c =
    let small = c.clock.ensures.small in
    let below = c.loop-i-test.true in
    let few = c.requires in
    clock_written (map g.N.Node.clock (map g.N.Node.plain c.args.nodes.now)) c.loop-i.words.items c.loop-i.i
    c.clock.result (omega arith)
    (c.clock.ensures.value
    ∙ ap (λ n. g.N.Node.clock (g.N.Node.plain n)) c.index-nodes-i.is
    ∙ sym (read-node g.N.Node.plain g.N.Node.clock c.args.nodes.now c.loop-i.i c.index-nodes-i.result (omega arith)))
    (omega arith) c.loop-i.invariant
