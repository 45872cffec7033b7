use Rattle.std.proofs.Common.{◌-◌, ◌+◌, ◌*◌, ◌≤◌}
use Rattle.link_order.specs.NodeKind.{kind_of}
use Rattle.link_run.specs.Going.{Went}
use Rattle.link_run.proofs.advance.go_here.Given as goal

abbrev pub invariant-loop-left : goal.invariant-loop-left
invariant-loop-left g l = record {
  went : Went (kind_of g.N.Node.clock g.N.Node.was g.N.Node.next) g.N.Node.plain g.N.Node.bound l.work.until l.fn.lane
      l.lane;
  few : l.left ≤ 524288;
}

abbrev pub decreases-loop-left : goal.decreases-loop-left
decreases-loop-left g l = (l.work.until - l.clock) * 524289 + l.left
