use Rattle.std.proofs.Common.{◌≡◌, ◌++◌, ◌∷◌, [], ◌∙◌, List, ℕ, map, Ok, sym, ap, subst}
use Rattle.std.specs.Prelude.{string_bytes}
use Rattle.std.proofs.lemmas.Result.{err_from_is_err_and}
use Rattle.gba_command.proofs.Calls.{stopped}
use Rattle.gba_command.specs.Views.{write_stop_value}
use Rattle.gba_command.specs.Writing.{Call, Output, PerformsAll, Run, Wrote, addition, creation, file_calls}
use Rattle.gba_console.specs.Machine.{Machine}
use Rattle.gba_joblog.specs.Views.{job_value}
use Rattle.gba_run_files.proofs.Segmented.{files-many, same-whole}
use Rattle.gba_run_files.proofs.WholeRun.{last-added, stopped-before}
use Rattle.gba_run_files.specs.Frozen.{frozen_run}
use Rattle.gba_run_files.specs.Names.{RunNames}
use Rattle.gba_run_files.specs.Outputs.{outputs_of}
use Rattle.gba_run_files.specs.Pieces.{run_pieces}
use Rattle.gba_run_files.specs.Views.{names_value}
use Rattle.gba_run_files.specs.Written.{files_at, log_output, summary_lines}
use Rattle.gba_session.specs.Session.{segment_cut, whole_cut}
use Rattle.gba_snapshot.proofs.Forgetting.{file-forgotten, file-unlimited}
use Rattle.gba_snapshot.specs.File.{frozen_file}
use Rattle.link_order.specs.Cut.{Cut}
use Rattle.gba_run_files.proofs.freezing.PreparedFreeze.write_files.Goals as goal

pub returns-in_err-session-clause-files : goal.returns-in_err-session-clause-files
returns-in_err-session-clause-files g c =
    let names : RunNames =
    record { consoles = map names_value c.self.inside.names.items; log = string_bytes c.self.inside.name } in
    let job = job_value c.self.inside.job in
    let digest = c.self.inside.digest in
    let s = c.self.inside.session in
    let files = files_at job (whole_cut s) in
    let text = frozen_file digest (whole_cut s) in
    let entry = log_output names text in
    let made : List Output = outputs_of names.consoles job.consoles files ++ entry ∷ [] in
    let pieces = run_pieces names.consoles s in
    let Tells = g.O.Sink.Tells in
    let old = g.O.Sink.state c.args.out.now in
    let calls : file_calls c.args.self ≡ file_calls (frozen_run names job digest s) =
    ap file_calls (sym c.self.view_is) in
    let done : PerformsAll Tells (map creation made ++ map addition pieces) old (g.O.Sink.state c.write_outputs.new.out)
    (write_stop_value c.in_err-session.field-0.0) =
    rw (c.as_slice.ensures.value, c.new-first.ensures.items, c.as_slice-2.ensures.value, c.as_str.ensures.value) at
    (c.in_err-session.ensures.calls files text (files-many job s c.self.invariant.1)) in
    let p = err_from_is_err_and c.from_residual.result c.from_residual.ensures.1 in
    rw (p.1, p.2) (
    subst (λ (all : List Call). PerformsAll Tells all old (g.O.Sink.state c.write_outputs.new.out)
    (write_stop_value c.in_err-session.field-0.0)) (sym calls)
    (stopped-before Tells made pieces entry old (g.O.Sink.state c.write_outputs.new.out)
    (write_stop_value c.in_err-session.field-0.0) done (stopped c.in_err-session.field-0.0))
    )

pub returns-in_err-append-clause-files : goal.returns-in_err-append-clause-files
returns-in_err-append-clause-files g c =
    let names : RunNames =
    record { consoles = map names_value c.self.inside.names.items; log = string_bytes c.self.inside.name } in
    let job = job_value c.self.inside.job in
    let digest = c.self.inside.digest in
    let s = c.self.inside.session in
    let files = files_at job (whole_cut s) in
    let text = frozen_file digest (whole_cut s) in
    let entry = log_output names text in
    let made : List Output = outputs_of names.consoles job.consoles files ++ entry ∷ [] in
    let pieces = run_pieces names.consoles s in
    let Tells = g.O.Sink.Tells in
    let old = g.O.Sink.state c.args.out.now in
    let calls : file_calls c.args.self ≡ file_calls (frozen_run names job digest s) =
    ap file_calls (sym c.self.view_is) in
    let done : PerformsAll Tells (map creation made ++ map addition pieces) old
    (g.O.Sink.state c.write_outputs.new.out) Wrote =
    rw (c.as_slice.ensures.value, c.new-first.ensures.items, c.as_slice-2.ensures.value, c.as_str.ensures.value) at
    (c.in_ok-session.ensures.calls files text (files-many job s c.self.invariant.1)) in
    let t = c.in_ok-session.session in
    let text_is : c.as_slice-3.result.now ≡ text =
    c.as_slice-3.ensures.value ∙ c.freeze.ensures.items
    ∙ ap (λ (front : List ℕ). front ++ frozen_file digest c.cut.result.now) c.self.invariant.4
    ∙ sym (file-unlimited digest c.cut.result.now)
    ∙ ap (λ (cut : Cut Machine). frozen_file digest cut) c.cut.ensures
    ∙ file-forgotten digest (segment_cut t) (whole_cut t) c.ends_whole.ensures.consoles c.ends_whole.ensures.sent
    ∙ ap (λ (cut : Cut Machine). frozen_file digest cut) (same-whole s t c.in_ok-session.ensures.last) in
    let p = err_from_is_err_and c.from_residual-in_err-append.result c.from_residual-in_err-append.ensures.1 in
    rw (p.1, p.2) (
    subst (λ (all : List Call). PerformsAll Tells all old (g.O.Sink.state c.append.new.out)
    (write_stop_value c.in_err-append.field-0.0)) (sym calls)
    (last-added Tells made pieces entry old (g.O.Sink.state c.write_outputs.new.out) done
    (g.O.Sink.state c.append.new.out)
    (write_stop_value c.in_err-append.field-0.0) (rw (c.as_str-2.ensures.value, text_is) at c.in_err-append.ensures))
    )

pub returns-clause-files : goal.returns-clause-files
returns-clause-files g c =
    let names : RunNames =
    record { consoles = map names_value c.self.inside.names.items; log = string_bytes c.self.inside.name } in
    let job = job_value c.self.inside.job in
    let digest = c.self.inside.digest in
    let s = c.self.inside.session in
    let files = files_at job (whole_cut s) in
    let text = frozen_file digest (whole_cut s) in
    let entry = log_output names text in
    let made : List Output = outputs_of names.consoles job.consoles files ++ entry ∷ [] in
    let pieces = run_pieces names.consoles s in
    let Tells = g.O.Sink.Tells in
    let old = g.O.Sink.state c.args.out.now in
    let calls : file_calls c.args.self ≡ file_calls (frozen_run names job digest s) =
    ap file_calls (sym c.self.view_is) in
    let done : PerformsAll Tells (map creation made ++ map addition pieces) old
    (g.O.Sink.state c.write_outputs.new.out) Wrote =
    rw (c.as_slice.ensures.value, c.new-first.ensures.items, c.as_slice-2.ensures.value, c.as_str.ensures.value) at
    (c.in_ok-session.ensures.calls files text (files-many job s c.self.invariant.1)) in
    let t = c.in_ok-session.session in
    let text_is : c.as_slice-3.result.now ≡ text =
    c.as_slice-3.ensures.value ∙ c.freeze.ensures.items
    ∙ ap (λ (front : List ℕ). front ++ frozen_file digest c.cut.result.now) c.self.invariant.4
    ∙ sym (file-unlimited digest c.cut.result.now)
    ∙ ap (λ (cut : Cut Machine). frozen_file digest cut) c.cut.ensures
    ∙ file-forgotten digest (segment_cut t) (whole_cut t) c.ends_whole.ensures.consoles c.ends_whole.ensures.sent
    ∙ ap (λ (cut : Cut Machine). frozen_file digest cut) (same-whole s t c.in_ok-session.ensures.last) in
    subst (λ (all : List Call). PerformsAll Tells all old (g.O.Sink.state c.append.new.out) (Wrote)) (sym calls)
    (last-added Tells made pieces entry old (g.O.Sink.state c.write_outputs.new.out) done
    (g.O.Sink.state c.append.new.out) Wrote (rw (c.as_str-2.ensures.value, text_is) at c.in_ok-append.ensures))

pub returns-clause-end : goal.returns-clause-end
returns-clause-end g c =
    let s = c.self.inside.session in
    let t = c.in_ok-session.session in
    ap (λ (lines : List ℕ). Ok lines) c.summary.ensures.lines
    ∙ ap (λ (cut : Cut Machine). Ok (summary_lines cut.consoles)) (same-whole s t c.in_ok-session.ensures.last)
    ∙ ap (λ (r : Run). r.end) c.self.view_is
