use Rattle.std.proofs.Common.{◌≡◌, ◌-◌, ◌/◌, map, option_map}
use Rattle.gba_command.proofs.Calls.{Leads}
use Rattle.gba_command.specs.Writing.{addition}
use Rattle.gba_run_files.proofs.Segmented.{HasCome, IsAdvanced}
use Rattle.gba_run_files.specs.Pieces.{left_pieces, segment_pieces}
use Rattle.gba_run_files.specs.Views.{names_value}
use Rattle.gba_run_files.proofs.pieces.append_segments.Given as goal

-- the segments so far are run and added, how far the run has come, and of which segments the digests are taken
abbrev pub invariant-loop-later : goal.invariant-loop-later
invariant-loop-later g l =
    Leads g.O.Sink.Tells (map addition (left_pieces (map names_value l.fn.names) l.fn.first))
    (map addition (segment_pieces (l.fn.until / 16777216 - l._later) (map names_value l.fn.names) l.session))
    (g.O.Sink.state l.fn.out) (g.O.Sink.state l.out)
    × IsAdvanced l.fn.first l.session × HasCome l._later l.session
    × (l.digests ≡ option_map (λ _. l.session) l.fn.digests)
