use Rattle.std.proofs.Common.{rules}
use Rattle.std.specs.Prelude.{map, slice_index, length}
use Rattle.std.proofs.lemmas.Fn.{filter_same}
use Rattle.link_node.specs.Delays.{hop_of}
use Rattle.link_order.specs.Cut.{is_awaited}
use Rattle.link_core.proofs.signals.drop_dead.Goals as goal

pub returns-clause-items : goal.returns-clause-items
returns-clause-items g c =
    filter_same _ (is_awaited (hop_of c.args.delays.now)
    (slice_index (map g.N.Node.was (map g.N.Node.plain c.args.nodes.now))) (length c.args.nodes.now))
    _ (λ x b f h. search rules) _ _ c.retain.ensures.filtered
