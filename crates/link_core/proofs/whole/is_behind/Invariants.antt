use Rattle.std.proofs.Common.{◌≡◌, drop}
use Rattle.link_core.specs.Whole.{is_behind}
use Rattle.link_core.proofs.whole.is_behind.Given as goal

abbrev pub invariant-loop-one : goal.invariant-loop-one
invariant-loop-one l = is_behind l.last (drop l.one-index l.rest) ≡ is_behind l.fn.last l.rest
