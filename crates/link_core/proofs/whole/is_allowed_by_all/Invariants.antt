use Rattle.std.proofs.Common.{◌≡◌}
use Rattle.std.specs.Prelude.{map, slice_index}
use Rattle.link_node.specs.Delays.{hop_of}
use Rattle.link_core.specs.Whole.{all_below, is_allowed}
use Rattle.link_core.proofs.whole.is_allowed_by_all.Given as goal

abbrev pub invariant-loop-i : goal.invariant-loop-i
invariant-loop-i g l = l.all
    ≡ all_below (is_allowed (hop_of l.delays) (slice_index (map g.N.Node.clock (map g.N.Node.plain l.nodes))) l.one) l.i
