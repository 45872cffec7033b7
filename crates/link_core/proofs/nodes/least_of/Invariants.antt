use Rattle.std.proofs.Common.{◌≡◌, ◌<◌}
use Rattle.std.specs.Prelude.{map, slice_index, length}
use Rattle.link_order.specs.GlobalOrder.{least_below}
use Rattle.link_core.proofs.nodes.least_of.Given as goal

abbrev pub invariant-loop-i : goal.invariant-loop-i
invariant-loop-i g l = record {
  least_so_far : l.least ≡ least_below (slice_index (map g.N.Node.clock (map g.N.Node.plain l.nodes))) l.i;
  player : l.least < length l.nodes;
}
