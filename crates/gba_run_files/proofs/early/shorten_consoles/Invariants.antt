use Rattle.std.proofs.Common.{◌≡◌, map}
use Rattle.gba_joblog.specs.Views.{console_value}
use Rattle.gba_run_files.proofs.Shortening.{changed_from}
use Rattle.gba_run_files.specs.Frozen.{console_so_far}
use Rattle.gba_run_files.proofs.early.shorten_consoles.Given as goal

abbrev pub invariant-loop-place : goal.invariant-loop-place
invariant-loop-place l =
    changed_from console_so_far l.consoles l.place ≡ map console_so_far (map console_value l.initial.consoles)
