use Rattle.std.proofs.Common.{◌≡◌}
use Rattle.std.specs.Prelude.{map, slice_index}
use Rattle.link_node.specs.Delays.{hop_of}
use Rattle.link_order.specs.Cut.{is_awaited}
use Rattle.link_core.proofs.signals.is_awaited_by.Given as goal

abbrev pub invariant-loop-i : goal.invariant-loop-i
invariant-loop-i g l = l.awaited
    ≡ is_awaited (hop_of l.delays) (slice_index (map g.N.Node.was (map g.N.Node.plain l.nodes))) l.i l.one
