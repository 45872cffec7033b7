use Rattle.std.proofs.Common.{◌≡◌, ◌≤◌, ◌+◌, ◌++◌, length, map, drop}
use Rattle.std.specs.List.{All, AllZip}
use Rattle.gba_joblog.specs.Views.{job_value}
use Rattle.gba_console.specs.Machine.{limit_of, without_limit}
use Rattle.gba_session.specs.Session.{later_end}
use Rattle.gba_session.specs.Start.{FitsConsole, consoles_from}
use Rattle.gba_session.proofs.starting.consoles_of.Given as goal

-- the consoles so far, and those that are left
abbrev pub invariant-loop-player : goal.invariant-loop-player
invariant-loop-player l =
    (map without_limit l.consoles.items
    ++ consoles_from (job_value l.job) l.player (drop l.player (job_value l.job).consoles) l.images.rest.items
    ≡ consoles_from (job_value l.job) 0 (job_value l.job).consoles l.fn.images.items)
    × All (λ limit. later_end l.job.cycles 0 ≤ limit) (map limit_of l.consoles.items)
    × AllZip FitsConsole (drop l.player (job_value l.job).consoles) l.images.rest.items
    × (l.player + length l.images.rest.items ≡ length (job_value l.job).consoles)
