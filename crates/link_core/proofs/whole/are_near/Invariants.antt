use Rattle.std.proofs.Common.{◌≡◌}
use Rattle.std.specs.Prelude.{length, map, slice_index}
use Rattle.link_node.specs.Delays.{hop_of}
use Rattle.link_core.specs.Whole.{all_below, is_near}
use Rattle.link_core.proofs.whole.are_near.Given as goal

abbrev pub invariant-loop-i : goal.invariant-loop-i
invariant-loop-i g l = l.all
    ≡ all_below (λ i. all_below
    (is_near (hop_of l.delays) (slice_index (map g.N.Node.clock (map g.N.Node.plain l.nodes)))
    (slice_index (map g.N.Node.was (map g.N.Node.plain l.nodes))) i) (length l.nodes)) l.i
