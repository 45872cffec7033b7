use Rattle.std.proofs.Common.{◌≡◌, drop, map}
use Rattle.gba_joblog.specs.Clash.{writes}
use Rattle.gba_joblog.specs.Views.{console_value}
use Rattle.gba_joblog.proofs.clash.writes.Given as goal

abbrev pub invariant-loop-player : goal.invariant-loop-player
invariant-loop-player l = writes l.out l.player (map console_value (drop l.player l.consoles)) l.name
    ≡ writes l.out 0 (map console_value l.consoles) l.name
