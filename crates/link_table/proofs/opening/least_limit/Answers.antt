use Rattle.std.proofs.Common.{arith, sym, ap, ◌∙◌, inl, inr}
use Rattle.std.proofs.lemmas.List.{length-map}
use Rattle.std.specs.Prelude.{map}
use Rattle.link_table.proofs.Openings.{least_more, read_map}
use Rattle.link_table.proofs.opening.least_limit.Goals as goal
use Rattle.link_table.proofs.opening.least_limit.Goals.{then-limit-least, else-limit-least}

pub loop-i-preserved : goal.loop-i-preserved
loop-i-preserved g c =
    let same = length-map c.args.nodes.now g.N.Node.bound in
    let test = c.loop-i-test.true in
    least_more (map g.N.Node.bound c.args.nodes.now) c.loop-i.least c.limit-limit.result c.if-limit-least.least
    c.loop-i.i (omega arith)
    (c.limit-limit.ensures.value ∙ ap g.N.Node.bound c.index-nodes-i.is
    ∙ sym (read_map g.N.Node.bound c.args.nodes.now c.loop-i.i c.index-nodes-i.result (omega arith)))
    c.limit-limit.ensures.small
    (elim c.if-limit-least.branch [
      | then-limit-least w ↦ inl (w.if-limit-least.true, w.least-is)
      | else-limit-least w ↦ inr (w.if-limit-least.false, w.least-is)
    ])
    c.loop-i.invariant
