use Rattle.std.proofs.Common.{◌≡◌, map}
use Rattle.gba_joblog.specs.Unasked.{console_unasked}
use Rattle.gba_joblog.specs.Views.{console_value}
use Rattle.gba_joblog.proofs.AskingNothing.{unasked_from}
use Rattle.gba_joblog.proofs.unasked.ask_for_nothing.Given as goal

abbrev pub invariant-loop-i : goal.invariant-loop-i
invariant-loop-i l = unasked_from l.consoles l.i ≡ map console_unasked (map console_value l.initial.consoles)
