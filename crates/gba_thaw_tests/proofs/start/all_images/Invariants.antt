use Rattle.std.proofs.Common.{map, take}
use Rattle.std.specs.List.{AllZip}
use Rattle.gba_joblog.specs.Views.{console_value}
use Rattle.gba_session.specs.Start.{FitsConsole}
use Rattle.gba_thaw_tests.proofs.start.all_images.Given as goal

-- the images so far fit the consoles so far
abbrev pub invariant-loop-console : goal.invariant-loop-console
invariant-loop-console l = AllZip FitsConsole (map console_value (take l.console-index l.consoles)) l.all.items
