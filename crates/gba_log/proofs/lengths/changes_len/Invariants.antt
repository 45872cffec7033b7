use Rattle.std.proofs.Common.{◌≡◌, ◌+◌, ◌*◌, ◌≤◌, drop, length}
use Rattle.gba_joblog.specs.Log.{changes_text}
use Rattle.gba_log.proofs.lengths.changes_len.Given as goal

-- the bytes so far, and those of the changes that are left
abbrev pub invariant-loop-change : goal.invariant-loop-change
invariant-loop-change l =
    (l.total + length (changes_text (drop l.change-index l.changes)) ≡ length (changes_text l.changes))
    × (l.total ≤ 29 * l.change-index)
