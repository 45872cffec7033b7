use Rattle.std.proofs.Common.{sym, ap, ◌∙◌}
use Rattle.link_core.proofs.Readings.{read-node}
use Rattle.link_core.proofs.nodes.clock_of.Goals as goal

pub returns-clause-value : goal.returns-clause-value
returns-clause-value g c =
    c.clock.ensures.value
    ∙ ap (λ n. g.N.Node.clock (g.N.Node.plain n)) c.index-nodes-i.is
    ∙ sym (read-node g.N.Node.plain g.N.Node.clock c.args.nodes.now c.args.i c.index-nodes-i.result c.requires)
