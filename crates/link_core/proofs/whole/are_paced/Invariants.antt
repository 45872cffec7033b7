use Rattle.std.proofs.Common.{◌≡◌}
use Rattle.std.specs.Prelude.{map, slice_index}
use Rattle.link_core.specs.Whole.{all_below, is_paced}
use Rattle.link_core.proofs.whole.are_paced.Given as goal

abbrev pub invariant-loop-i : goal.invariant-loop-i
invariant-loop-i g l = l.all
    ≡ all_below (is_paced (slice_index (map g.N.Node.clock (map g.N.Node.plain l.nodes)))
    (slice_index (map g.N.Node.was (map g.N.Node.plain l.nodes)))) l.i
