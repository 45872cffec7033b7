use Rattle.std.proofs.Common.{◌≡◌, ◌++◌, [], ◌∙◌, List, ℕ, map, Ok, sym, ap, subst}
use Rattle.std.proofs.lemmas.List.{append-nil}
use Rattle.std.proofs.lemmas.Result.{err_from_is_err_and}
use Rattle.gba_command.specs.Views.{write_stop_value}
use Rattle.gba_command.specs.Writing.{Call, Output, PerformsAll, Run, Wrote, addition, creation, file_calls}
use Rattle.gba_joblog.specs.Views.{job_value}
use Rattle.gba_run_files.proofs.Segmented.{files-many, same-whole}
use Rattle.gba_run_files.specs.Outputs.{outputs_of}
use Rattle.gba_run_files.specs.Pieces.{run_pieces}
use Rattle.gba_run_files.specs.Resumed.{resumed_run}
use Rattle.gba_run_files.specs.Views.{names_value}
use Rattle.gba_run_files.specs.Written.{files_at, summary_lines}
use Rattle.gba_session.specs.Session.{whole_cut}
use Rattle.link_order.specs.Cut.{Cut}
use Rattle.gba_console.specs.Machine.{Machine}
use Rattle.gba_run_files.proofs.resuming.PreparedResume.write_files.Goals as goal

pub returns-in_err-session-clause-files : goal.returns-in_err-session-clause-files
returns-in_err-session-clause-files g c =
    let names = map names_value c.self.inside.names.items in
    let job = job_value c.self.inside.job in
    let s = c.self.inside.session in
    let files = files_at job (whole_cut s) in
    let made : List Output = outputs_of names job.consoles files in
    let pieces = run_pieces names s in
    let Tells = g.O.Sink.Tells in
    let old = g.O.Sink.state c.args.out.now in
    let new = g.O.Sink.state c.write_outputs.new.out in
    let calls : file_calls c.args.self ≡ file_calls (resumed_run names job s) = ap file_calls (sym c.self.view_is) in
    let done : PerformsAll Tells (map creation (made ++ []) ++ map addition pieces) old new
    (write_stop_value c.in_err-session.field-0.0) =
    rw (c.as_slice.ensures.value, c.new-first.ensures.items, c.as_slice-2.ensures.value) at
    (c.in_err-session.ensures.calls files [] (files-many job s c.self.invariant.1)) in
    let p = err_from_is_err_and c.from_residual.result c.from_residual.ensures.1 in
    rw (p.1, p.2) (
    subst (λ (all : List Call). PerformsAll Tells all old new (write_stop_value c.in_err-session.field-0.0)) (sym calls)
    (subst (λ (outputs : List Output). PerformsAll Tells (map creation outputs ++ map addition pieces) old new
    (write_stop_value c.in_err-session.field-0.0)) (append-nil made) done)
    )

pub returns-clause-files : goal.returns-clause-files
returns-clause-files g c =
    let names = map names_value c.self.inside.names.items in
    let job = job_value c.self.inside.job in
    let s = c.self.inside.session in
    let files = files_at job (whole_cut s) in
    let made : List Output = outputs_of names job.consoles files in
    let pieces = run_pieces names s in
    let Tells = g.O.Sink.Tells in
    let old = g.O.Sink.state c.args.out.now in
    let new = g.O.Sink.state c.write_outputs.new.out in
    let calls : file_calls c.args.self ≡ file_calls (resumed_run names job s) = ap file_calls (sym c.self.view_is) in
    let done : PerformsAll Tells (map creation (made ++ []) ++ map addition pieces) old new Wrote =
    rw (c.as_slice.ensures.value, c.new-first.ensures.items, c.as_slice-2.ensures.value) at
    (c.in_ok-session.ensures.calls files [] (files-many job s c.self.invariant.1)) in
    subst (λ (all : List Call). PerformsAll Tells all old new Wrote) (sym calls)
    (subst (λ (outputs : List Output). PerformsAll Tells (map creation outputs ++ map addition pieces) old new Wrote)
    (append-nil made) done)

pub returns-clause-end : goal.returns-clause-end
returns-clause-end g c =
    let s = c.self.inside.session in
    let t = c.in_ok-session.session in
    ap (λ (lines : List ℕ). Ok lines) c.summary.ensures.lines
    ∙ ap (λ (cut : Cut Machine). Ok (summary_lines cut.consoles)) (same-whole s t c.in_ok-session.ensures.last)
    ∙ ap (λ (r : Run). r.end) c.self.view_is
