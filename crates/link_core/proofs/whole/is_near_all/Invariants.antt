use Rattle.std.proofs.Common.{◌≡◌}
use Rattle.std.specs.Prelude.{map, slice_index}
use Rattle.link_node.specs.Delays.{hop_of}
use Rattle.link_core.specs.Whole.{all_below, is_near}
use Rattle.link_core.proofs.whole.is_near_all.Given as goal

abbrev pub invariant-loop-j : goal.invariant-loop-j
invariant-loop-j g l = l.all
    ≡ all_below (is_near (hop_of l.delays) (slice_index (map g.N.Node.clock (map g.N.Node.plain l.nodes)))
    (slice_index (map g.N.Node.was (map g.N.Node.plain l.nodes))) l.i) l.j
