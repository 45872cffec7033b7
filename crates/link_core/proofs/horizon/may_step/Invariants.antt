use Rattle.std.proofs.Common.{ℕ, ◌+◌, ◌<◌}
use Rattle.std.specs.Prelude.{slice_index, slice_index_or}
use Rattle.link_core.specs.declared.horizon.Seen.{Seen}
use Rattle.link_core.proofs.horizon.may_step.Given as goal

abbrev pub invariant-loop-place : goal.invariant-loop-place
invariant-loop-place l =
    (k : ℕ) (d : Seen) → k < l.place → l.clock < (slice_index_or l.seen k d).clock + slice_index l.delays k
