use Rattle.std.proofs.Common.{drop, map}
use Rattle.gba_command.proofs.Calls.{Leads}
use Rattle.gba_command.specs.Writing.{addition}
use Rattle.gba_session.specs.Session.{segment_cut}
use Rattle.gba_run_files.specs.Pieces.{cut_pieces}
use Rattle.gba_run_files.specs.Views.{names_value}
use Rattle.gba_run_files.proofs.pieces.append_pieces.Given as goal

-- the pieces of the consoles so far are added
abbrev pub invariant-loop-player : goal.invariant-loop-player
invariant-loop-player g l =
    Leads g.O.Sink.Tells
    (map addition
    (cut_pieces l.fn.kinds (map names_value l.fn.names) l.fn.session.asks (segment_cut l.fn.session).consoles))
    (map addition (cut_pieces l.fn.kinds (drop l.player (map names_value l.fn.names)) (drop l.player l.fn.session.asks)
    (drop l.player (segment_cut l.fn.session).consoles)))
    (g.O.Sink.state l.fn.out) (g.O.Sink.state l.out)
