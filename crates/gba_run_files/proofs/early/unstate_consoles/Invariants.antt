use Rattle.std.proofs.Common.{◌≡◌, map}
use Rattle.gba_joblog.specs.Views.{console_value}
use Rattle.gba_run_files.proofs.Shortening.{changed_from}
use Rattle.gba_run_files.specs.Frozen.{console_unstated}
use Rattle.gba_run_files.proofs.early.unstate_consoles.Given as goal

abbrev pub invariant-loop-place : goal.invariant-loop-place
invariant-loop-place l =
    changed_from console_unstated l.consoles l.place ≡ map console_unstated (map console_value l.initial.consoles)
