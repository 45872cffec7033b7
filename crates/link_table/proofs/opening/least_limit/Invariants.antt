use Rattle.std.specs.Prelude.{map}
use Rattle.link_table.proofs.Openings.{IsLeastBelow}
use Rattle.link_table.proofs.opening.least_limit.Given as goal

abbrev pub invariant-loop-i : goal.invariant-loop-i
invariant-loop-i g l = IsLeastBelow (map g.N.Node.bound l.nodes) l.least l.i
