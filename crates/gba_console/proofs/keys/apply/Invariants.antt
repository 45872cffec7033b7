use Rattle.std.proofs.Common.{◌≡◌, ◌+◌, ◌-◌, ◌≤◌, drop, length}
use Rattle.gba_console.specs.Keys.{after_keys, due_count}
use Rattle.gba_console.proofs.keys.apply.Given as goal

-- the changes from `next` on lead to the same core, and those before it are due
abbrev pub invariant-loop-next : goal.invariant-loop-next
invariant-loop-next l =
    (l.next ≤ length l.changes)
    × (after_keys l.clock (drop l.next l.changes) l.core ≡ after_keys l.clock (drop l.applied l.changes) l.fn.core)
    × (l.next + due_count l.clock (drop l.next l.changes) ≡ l.applied + due_count l.clock (drop l.applied l.changes))

abbrev pub decreases-loop-next : goal.decreases-loop-next
decreases-loop-next l = length l.changes - l.next
