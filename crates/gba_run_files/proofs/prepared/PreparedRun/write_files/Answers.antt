use Rattle.std.proofs.Common.{◌≡◌, ◌++◌, ◌∷◌, [], ◌∙◌, List, append_assoc, map, sym, ap, subst}
use Rattle.std.specs.Prelude.{string_bytes}
use Rattle.std.proofs.lemmas.Result.{err_from_is_err_and}
use Rattle.gba_command.proofs.Calls.{stopped}
use Rattle.gba_command.specs.Views.{output_value, write_stop_value}
use Rattle.gba_command.specs.Writing.{Call, Output, PerformsAll, Run, Wrote, addition, creation, file_calls}
use Rattle.gba_console.specs.Machine.{Machine}
use Rattle.gba_joblog.specs.Views.{job_value}
use Rattle.gba_run_files.proofs.Segmented.{files-many, same-whole}
use Rattle.gba_run_files.proofs.WholeRun.{last-added, stopped-before}
use Rattle.gba_run_files.specs.Names.{RunNames}
use Rattle.gba_run_files.specs.Outputs.{difference_of, outputs_of}
use Rattle.gba_run_files.specs.Pieces.{run_pieces}
use Rattle.gba_run_files.specs.Views.{names_value}
use Rattle.gba_run_files.specs.Written.{after_files, conclusion, files_at, log_line, log_of, log_output, run_of, summary_lines}
use Rattle.gba_session.specs.Session.{whole_cut}
use Rattle.link_order.specs.Cut.{Cut}
use Rattle.gba_run_files.proofs.prepared.PreparedRun.write_files.Goals as goal

pub returns-in_err-session-clause-files : goal.returns-in_err-session-clause-files
returns-in_err-session-clause-files g c =
    let first = map output_value c.self.inside.first.items in
    let names : RunNames =
    record { consoles = map names_value c.self.inside.names.items; log = string_bytes c.self.inside.log_name } in
    let job = job_value c.self.inside.job in
    let s = c.self.inside.session in
    let files = files_at job (whole_cut s) in
    let log = log_of job files in
    let entry = log_output names log in
    let made = first ++ (outputs_of names.consoles job.consoles files ++ entry ∷ []) in
    let pieces = first ++ run_pieces names.consoles s in
    let Tells = g.O.Sink.Tells in
    let old = g.O.Sink.state c.args.out.now in
    let calls : file_calls c.args.self ≡ file_calls (after_files first (run_of names job s)) =
    ap file_calls (sym c.self.view_is) in
    let assoc : map creation made ++ map addition (pieces ++ entry ∷ [])
    ≡ file_calls (after_files first (run_of names job s)) =
    ap (λ (ps : List Output). map creation made ++ map addition ps)
    (append_assoc first (run_pieces names.consoles s) (entry ∷ [])) in
    let done : PerformsAll Tells (map creation made ++ map addition pieces) old (g.O.Sink.state c.write_outputs.new.out)
    (write_stop_value c.in_err-session.field-0.0) =
    rw (c.as_slice.ensures.value, c.as_slice-names.ensures.value, c.as_str.ensures.value) at
    (c.in_err-session.ensures.calls files log (files-many job s c.self.invariant.1)) in
    let p = err_from_is_err_and c.from_residual.result c.from_residual.ensures.1 in
    rw (p.1, p.2) (
    subst (λ (all : List Call). PerformsAll Tells all old (g.O.Sink.state c.write_outputs.new.out)
    (write_stop_value c.in_err-session.field-0.0)) (assoc ∙ sym calls)
    (stopped-before Tells made pieces entry old (g.O.Sink.state c.write_outputs.new.out)
    (write_stop_value c.in_err-session.field-0.0) done (stopped c.in_err-session.field-0.0))
    )

pub returns-in_err-append-clause-files : goal.returns-in_err-append-clause-files
returns-in_err-append-clause-files g c =
    let first = map output_value c.self.inside.first.items in
    let names : RunNames =
    record { consoles = map names_value c.self.inside.names.items; log = string_bytes c.self.inside.log_name } in
    let job = job_value c.self.inside.job in
    let s = c.self.inside.session in
    let files = files_at job (whole_cut s) in
    let log = log_of job files in
    let entry = log_output names log in
    let made = first ++ (outputs_of names.consoles job.consoles files ++ entry ∷ []) in
    let pieces = first ++ run_pieces names.consoles s in
    let Tells = g.O.Sink.Tells in
    let old = g.O.Sink.state c.args.out.now in
    let calls : file_calls c.args.self ≡ file_calls (after_files first (run_of names job s)) =
    ap file_calls (sym c.self.view_is) in
    let assoc : map creation made ++ map addition (pieces ++ entry ∷ [])
    ≡ file_calls (after_files first (run_of names job s)) =
    ap (λ (ps : List Output). map creation made ++ map addition ps)
    (append_assoc first (run_pieces names.consoles s) (entry ∷ [])) in
    let done : PerformsAll Tells (map creation made ++ map addition pieces) old
    (g.O.Sink.state c.write_outputs.new.out) Wrote =
    rw (c.as_slice.ensures.value, c.as_slice-names.ensures.value, c.as_str.ensures.value) at
    (c.in_ok-session.ensures.calls files log (files-many job s c.self.invariant.1)) in
    let t = c.in_ok-session.session in
    let log_is : c.as_slice-2.result.now ≡ log =
    c.as_slice-2.ensures.value ∙ c.end_log-end.ensures.log
    ∙ ap (λ (cut : Cut Machine). log_of job (files_at job cut)) (same-whole s t c.in_ok-session.ensures.last) in
    let p = err_from_is_err_and c.from_residual-in_err-append.result c.from_residual-in_err-append.ensures.1 in
    rw (p.1, p.2) (
    subst (λ (all : List Call). PerformsAll Tells all old (g.O.Sink.state c.append.new.out)
    (write_stop_value c.in_err-append.field-0.0)) (assoc ∙ sym calls)
    (last-added Tells made pieces entry old (g.O.Sink.state c.write_outputs.new.out) done
    (g.O.Sink.state c.append.new.out)
    (write_stop_value c.in_err-append.field-0.0) (rw (c.as_str-2.ensures.value, log_is) at c.in_err-append.ensures))
    )

pub returns-clause-files : goal.returns-clause-files
returns-clause-files g c =
    let first = map output_value c.self.inside.first.items in
    let names : RunNames =
    record { consoles = map names_value c.self.inside.names.items; log = string_bytes c.self.inside.log_name } in
    let job = job_value c.self.inside.job in
    let s = c.self.inside.session in
    let files = files_at job (whole_cut s) in
    let log = log_of job files in
    let entry = log_output names log in
    let made = first ++ (outputs_of names.consoles job.consoles files ++ entry ∷ []) in
    let pieces = first ++ run_pieces names.consoles s in
    let Tells = g.O.Sink.Tells in
    let old = g.O.Sink.state c.args.out.now in
    let calls : file_calls c.args.self ≡ file_calls (after_files first (run_of names job s)) =
    ap file_calls (sym c.self.view_is) in
    let assoc : map creation made ++ map addition (pieces ++ entry ∷ [])
    ≡ file_calls (after_files first (run_of names job s)) =
    ap (λ (ps : List Output). map creation made ++ map addition ps)
    (append_assoc first (run_pieces names.consoles s) (entry ∷ [])) in
    let done : PerformsAll Tells (map creation made ++ map addition pieces) old
    (g.O.Sink.state c.write_outputs.new.out) Wrote =
    rw (c.as_slice.ensures.value, c.as_slice-names.ensures.value, c.as_str.ensures.value) at
    (c.in_ok-session.ensures.calls files log (files-many job s c.self.invariant.1)) in
    let t = c.in_ok-session.session in
    let log_is : c.as_slice-2.result.now ≡ log =
    c.as_slice-2.ensures.value ∙ c.end_log-end.ensures.log
    ∙ ap (λ (cut : Cut Machine). log_of job (files_at job cut)) (same-whole s t c.in_ok-session.ensures.last) in
    subst (λ (all : List Call). PerformsAll Tells all old (g.O.Sink.state c.append.new.out) (Wrote)) (assoc ∙ sym calls)
    (last-added Tells made pieces entry old (g.O.Sink.state c.write_outputs.new.out) done
    (g.O.Sink.state c.append.new.out) Wrote (rw (c.as_str-2.ensures.value, log_is) at c.in_ok-append.ensures))

pub returns-clause-end : goal.returns-clause-end
returns-clause-end g c =
    let names = map names_value c.self.inside.names.items in
    let job = job_value c.self.inside.job in
    let s = c.self.inside.session in
    let t = c.in_ok-session.session in
    let whole : whole_cut t ≡ whole_cut s = same-whole s t c.in_ok-session.ensures.last in
    c.end_log-end.ensures.end
    ∙ ap (λ ns. conclusion (difference_of (map names_value ns) job.consoles (files_at job (whole_cut t)))
    (summary_lines (whole_cut t).consoles ++ log_line c.end_log-end.new.log.items)) c.as_slice-names.ensures.value
    ∙ ap (λ log. conclusion (difference_of names job.consoles (files_at job (whole_cut t)))
    (summary_lines (whole_cut t).consoles ++ log_line log)) c.end_log-end.ensures.log
    ∙ ap (λ (cut : Cut Machine). conclusion (difference_of names job.consoles (files_at job cut))
    (summary_lines cut.consoles ++ log_line (log_of job (files_at job cut)))) whole
    ∙ ap (λ (r : Run). r.end) c.self.view_is
