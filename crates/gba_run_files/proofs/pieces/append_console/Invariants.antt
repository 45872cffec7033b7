use Rattle.std.proofs.Common.{◌≡◌, Some, drop, map}
use Rattle.std.specs.List.{flat_map}
use Rattle.std.specs.Prelude.{slice_get}
use Rattle.gba_command.proofs.Calls.{Leads}
use Rattle.gba_command.specs.Writing.{addition}
use Rattle.gba_console.specs.Machine.{Machine}
use Rattle.gba_joblog.specs.Views.{console_value}
use Rattle.gba_session.specs.Files.{asks_of}
use Rattle.gba_session.specs.Session.{segment_cut}
use Rattle.gba_run_files.specs.Pieces.{console_pieces, kind_piece}
use Rattle.gba_run_files.specs.Views.{names_value}
use Rattle.gba_run_files.proofs.pieces.append_console.Given as goal

-- the pieces of the kinds so far are added
abbrev pub invariant-loop-place : goal.invariant-loop-place
invariant-loop-place g l =
    (m : Machine) → slice_get (segment_cut l.fn.session).consoles l.fn.player ≡ Some m → Leads g.O.Sink.Tells
    (map addition (console_pieces l.fn.kinds (names_value l.fn.names) (asks_of (console_value l.fn.console)) m))
    (map addition (flat_map (kind_piece (names_value l.fn.names) (asks_of (console_value l.fn.console)) m)
    (drop l.place l.fn.kinds)))
    (g.O.Sink.state l.fn.out) (g.O.Sink.state l.out)
