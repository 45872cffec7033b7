use Rattle.std.proofs.Common.{drop, map}
use Rattle.gba_joblog.specs.Views.{console_value}
use Rattle.gba_joblog.specs.Log.{consoles_text}
use Rattle.gba_log.proofs.Printed.{Printed}
use Rattle.gba_log.proofs.printing.add_consoles.Given as goal

abbrev pub invariant-loop-player : goal.invariant-loop-player
invariant-loop-player l =
    Printed l.initial.into l.into (consoles_text 0 (map console_value l.consoles))
    (consoles_text l.player (map console_value (drop l.player l.consoles)))
