use Rattle.std.proofs.Common.{◌≡◌, map, take}
use Rattle.std.specs.List.{All}
use Rattle.gba_joblog.specs.Views.{console_value}
use Rattle.gba_session.specs.Files.{asks_of}
use Rattle.gba_session.specs.Held.{IsUnused, asks_in}
use Rattle.gba_session.proofs.starting.players_of.Given as goal

-- the players so far
abbrev pub invariant-loop-console : goal.invariant-loop-console
invariant-loop-console l =
    (map asks_in l.players.items
    ≡ map (λ console. asks_of (console_value console)) (take l.console-index l.job.consoles.items))
    × All IsUnused l.players.items
