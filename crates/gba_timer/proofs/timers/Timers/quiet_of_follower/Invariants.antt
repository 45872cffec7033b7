use Rattle.std.proofs.Common.{◌≡◌, ◌≤◌, ◌+◌, ◌-◌}
use Rattle.gba_timer.specs.Quiet.{cycles_before, overflow_at}
use Rattle.gba_timer.proofs.timers.Timers.quiet_of_follower.Given as goal

-- of the cycles so far none has the overflow
abbrev pub invariant-loop-left : goal.invariant-loop-left
invariant-loop-left l =
    (cycles_before (overflow_at l.timer) 512 l.fn.self
    ≡ 512 - l.left + cycles_before (overflow_at l.timer) l.left l.timers)
    × (l.left ≤ 512)

abbrev pub decreases-loop-left : goal.decreases-loop-left
decreases-loop-left l = l.left
