use Rattle.std.proofs.Common.{◌≡◌, drop, map}
use Rattle.std.specs.Prelude.{option_map}
use Rattle.gba_joblog.specs.Clash.{inputs_clash, is_written, least}
use Rattle.gba_joblog.specs.Views.{console_value}
use Rattle.gba_joblog.proofs.clash.inputs_clash.Given as goal

abbrev pub invariant-loop-console : goal.invariant-loop-console
invariant-loop-console l =
    least l.found (inputs_clash (is_written (option_map (λ one. one.now) l.more) l.out (map console_value l.consoles))
    (map console_value
    (drop l.console-index l.consoles)))
    ≡ inputs_clash (is_written (option_map (λ one. one.now) l.more) l.out (map console_value l.consoles))
    (map console_value l.consoles)
