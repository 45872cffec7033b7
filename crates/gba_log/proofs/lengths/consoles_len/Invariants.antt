use Rattle.std.proofs.Common.{◌≡◌, ◌+◌, ◌*◌, ◌≤◌, drop, length, map}
use Rattle.gba_joblog.specs.Views.{console_value}
use Rattle.gba_joblog.specs.Log.{consoles_text}
use Rattle.gba_log.proofs.lengths.consoles_len.Given as goal

-- the bytes so far, and those of the consoles that are left
abbrev pub invariant-loop-player : goal.invariant-loop-player
invariant-loop-player l =
    (l.total + length (consoles_text l.player (map console_value (drop l.player l.consoles)))
    ≡ length (consoles_text 0 (map console_value l.consoles))) × (l.total ≤ 29001342 * l.player)
