use Rattle.std.proofs.Common.{List, ◌∙◌, ap, map, subst}
use Rattle.gba_command.specs.Views.{write_end}
use Rattle.gba_command.specs.Writing.{Output, PerformsAll, addition}
use Rattle.gba_joblog.specs.declared.outputs.OutKind.{OutKind}
use Rattle.gba_session.specs.Session.{segment_cut, whole_cut}
use Rattle.gba_run_files.proofs.Segmented.{lasting-same}
use Rattle.gba_run_files.specs.Pieces.{cut_pieces}
use Rattle.gba_run_files.specs.Views.{names_value}
use Rattle.gba_run_files.proofs.pieces.append_last.Goals as goal

pub returns : goal.returns
returns g c =
    let names = map names_value c.args.names.now in
    let s = c.args.session.now in
    subst (λ (pieces : List Output). PerformsAll g.O.Sink.Tells (map addition pieces) (g.O.Sink.state c.args.out.now)
    (g.O.Sink.state c.append_pieces.new.out) (write_end c.append_pieces.result))
    (ap (λ (kinds : List OutKind). cut_pieces kinds names s.asks (segment_cut s).consoles) c.as_slice.ensures
    ∙ lasting-same names s.asks (segment_cut s).consoles (whole_cut s).consoles c.ends_whole.ensures.consoles)
    c.append_pieces.ensures
