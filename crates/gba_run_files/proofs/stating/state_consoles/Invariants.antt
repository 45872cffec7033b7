use Rattle.std.proofs.Common.{map}
use Rattle.std.specs.Prelude.{option_map}
use Rattle.gba_command.specs.Views.{cause_value}
use Rattle.gba_joblog.specs.Views.{console_value}
use Rattle.gba_session.specs.Files.{all_files}
use Rattle.gba_session.specs.Session.{whole_cut}
use Rattle.gba_run_files.proofs.StatedLists.{Stating}
use Rattle.gba_run_files.specs.Views.{names_value}
use Rattle.gba_run_files.proofs.stating.state_consoles.Given as goal

-- the consoles so far are stated
abbrev pub invariant-loop-player : goal.invariant-loop-player
invariant-loop-player l =
    Stating (map names_value l.fn.names) (all_files l.fn.digests.asks (whole_cut l.fn.digests).consoles)
    (map console_value l.initial.consoles) (option_map cause_value l.cause) (map console_value l.consoles) l.player
