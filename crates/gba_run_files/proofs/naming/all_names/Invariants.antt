use Rattle.std.proofs.Common.{◌≡◌, ◌++◌, ◌-◌, map}
use Rattle.gba_run_files.specs.Names.{names_from}
use Rattle.gba_run_files.specs.Views.{names_value}
use Rattle.gba_run_files.proofs.naming.all_names.Given as goal

-- the names so far, and those that are left
abbrev pub invariant-loop-player : goal.invariant-loop-player
invariant-loop-player l =
    map names_value l.all.items ++ names_from l.out l.player (l.count - l.player) ≡ names_from l.out 0 l.count
