use Rattle.std.proofs.Common.{◌≡◌, ◌++◌, ◌∙◌, List, length, map, sym, ap, subst}
use Rattle.std.specs.Prelude.{option_map}
use Rattle.std.proofs.lemmas.List.{length-map}
use Rattle.std.proofs.lemmas.Result.{err_from_is_err_and}
use Rattle.gba_command.proofs.Calls.{stopped}
use Rattle.gba_command.specs.Views.{output_value, write_stop_value}
use Rattle.gba_command.specs.Writing.{Output, PerformsAll, Wrote, addition, creation}
use Rattle.gba_console.specs.Machine.{Machine}
use Rattle.gba_joblog.specs.Views.{console_value, job_value}
use Rattle.gba_run_files.proofs.Segmented.{advances, before-first, first-pieces, last-asks, last-whole}
use Rattle.gba_run_files.proofs.WholeRun.{grown-added, stopped-creating, stopped-first, stopped-growing}
use Rattle.gba_run_files.specs.Outputs.{last_output, outputs_of}
use Rattle.gba_run_files.specs.Pieces.{cut_pieces, lasting_kinds, left_pieces, run_pieces}
use Rattle.gba_run_files.specs.Views.{names_value}
use Rattle.gba_session.specs.Session.{Consoles, advanced, whole_cut}
use Rattle.link_order.specs.Cut.{Cut}
use Rattle.gba_run_files.proofs.writing.write_outputs.Goals as goal

pub append_segments-requires-clause-before : goal.append_segments-requires-clause-before
append_segments-requires-clause-before g c =
    λ _ _.
    before-first c.args.digests.now c.args.session c.advance-session.result c.requires.digests c.requires.ready.left
    c.advance-session.ensures

pub returns-in_err-create_all-clause-calls : goal.returns-in_err-create_all-clause-calls
returns-in_err-create_all-clause-calls g c =
    let p = err_from_is_err_and c.from_residual.result c.from_residual.ensures.1 in
    rw (p.1, p.2) (
    let first = map output_value c.args.first.now in
    let names = map names_value c.args.names.now in
    let job = job_value c.args.job.now in
    let s = c.args.session in
    let grown = left_pieces names (advanced s) in
    let last = cut_pieces lasting_kinds names s.asks (whole_cut s).consoles in
    let Tells = g.O.Sink.Tells in
    let old = g.O.Sink.state c.args.out.now in
    let consoles_are : map console_value c.as_slice-consoles.result.now ≡ job.consoles =
    ap (map console_value) c.as_slice-consoles.ensures.value in
    λ files bytes long.
    let made : List Output =
    first ++ (outputs_of names job.consoles files ++ last_output (option_map (λ name. name.now) c.args.last) bytes) in
    let pieces : run_pieces names s ≡ grown ++ last =
    first-pieces names s c.requires.ready.left in
    let many : length files ≡ length c.as_slice-consoles.result.now =
    long ∙ sym (ap length consoles_are) ∙ length-map c.as_slice-consoles.result.now console_value in
    subst (λ (ps : List Output). PerformsAll Tells (map creation made ++ map addition (first ++ ps)) old
    (g.O.Sink.state c.create_all.new.out) (write_stop_value c.in_err-create_all.field-0.0)) (sym pieces)
    (stopped-creating Tells made first grown last old (g.O.Sink.state c.create_all.new.out)
    (write_stop_value c.in_err-create_all.field-0.0)
    (rw consoles_are at (c.in_err-create_all.ensures files bytes many)) (stopped c.in_err-create_all.field-0.0))
    )

pub returns-in_err-append_files-clause-calls : goal.returns-in_err-append_files-clause-calls
returns-in_err-append_files-clause-calls g c =
    let p =
    err_from_is_err_and c.from_residual-in_err-append_files.result c.from_residual-in_err-append_files.ensures.1 in
    rw (p.1, p.2) (
    let first = map output_value c.args.first.now in
    let names = map names_value c.args.names.now in
    let job = job_value c.args.job.now in
    let s = c.args.session in
    let grown = left_pieces names (advanced s) in
    let last = cut_pieces lasting_kinds names s.asks (whole_cut s).consoles in
    let Tells = g.O.Sink.Tells in
    let old = g.O.Sink.state c.args.out.now in
    let consoles_are : map console_value c.as_slice-consoles.result.now ≡ job.consoles =
    ap (map console_value) c.as_slice-consoles.ensures.value in
    λ files bytes long.
    let made : List Output =
    first ++ (outputs_of names job.consoles files ++ last_output (option_map (λ name. name.now) c.args.last) bytes) in
    let pieces : run_pieces names s ≡ grown ++ last =
    first-pieces names s c.requires.ready.left in
    let many : length files ≡ length c.as_slice-consoles.result.now =
    long ∙ sym (ap length consoles_are) ∙ length-map c.as_slice-consoles.result.now console_value in
    let created : PerformsAll Tells (map creation made) old (g.O.Sink.state c.create_all.new.out) Wrote =
    rw consoles_are at (c.in_ok-create_all.ensures files bytes many) in
    subst (λ (ps : List Output). PerformsAll Tells (map creation made ++ map addition (first ++ ps)) old
    (g.O.Sink.state c.append_files.new.out) (write_stop_value c.in_err-append_files.field-0.0)) (sym pieces)
    (stopped-first Tells made first grown last old (g.O.Sink.state c.create_all.new.out) created
    (g.O.Sink.state c.append_files.new.out) (write_stop_value c.in_err-append_files.field-0.0)
    c.in_err-append_files.ensures (stopped c.in_err-append_files.field-0.0))
    )

pub returns-in_err-session-clause-calls : goal.returns-in_err-session-clause-calls
returns-in_err-session-clause-calls g c =
    let p = err_from_is_err_and c.from_residual-in_err-session.result c.from_residual-in_err-session.ensures.1 in
    rw (p.1, p.2) (
    let first = map output_value c.args.first.now in
    let names = map names_value c.args.names.now in
    let job = job_value c.args.job.now in
    let s = c.args.session in
    let grown = left_pieces names (advanced s) in
    let last = cut_pieces lasting_kinds names s.asks (whole_cut s).consoles in
    let Tells = g.O.Sink.Tells in
    let old = g.O.Sink.state c.args.out.now in
    let consoles_are : map console_value c.as_slice-consoles.result.now ≡ job.consoles =
    ap (map console_value) c.as_slice-consoles.ensures.value in
    λ files bytes long.
    let made : List Output =
    first ++ (outputs_of names job.consoles files ++ last_output (option_map (λ name. name.now) c.args.last) bytes) in
    let pieces : run_pieces names s ≡ grown ++ last =
    first-pieces names s c.requires.ready.left in
    let many : length files ≡ length c.as_slice-consoles.result.now =
    long ∙ sym (ap length consoles_are) ∙ length-map c.as_slice-consoles.result.now console_value in
    let created : PerformsAll Tells (map creation made) old (g.O.Sink.state c.create_all.new.out) Wrote =
    rw consoles_are at (c.in_ok-create_all.ensures files bytes many) in
    let added : PerformsAll Tells (map addition first) (g.O.Sink.state c.create_all.new.out)
    (g.O.Sink.state c.append_files.new.out) Wrote = c.in_ok-append_files.ensures in
    subst (λ (ps : List Output). PerformsAll Tells (map creation made ++ map addition (first ++ ps)) old
    (g.O.Sink.state c.append_segments.new.out) (write_stop_value c.in_err-session.field-0.0)) (sym pieces)
    (stopped-growing Tells made first grown last old (g.O.Sink.state c.create_all.new.out) created
    (g.O.Sink.state c.append_files.new.out) added
    (g.O.Sink.state c.append_segments.new.out) (write_stop_value c.in_err-session.field-0.0)
    (rw c.advance-session.ensures at c.in_err-session.ensures.pieces) (stopped c.in_err-session.field-0.0))
    )

pub returns-in_err-append_last-clause-calls : goal.returns-in_err-append_last-clause-calls
returns-in_err-append_last-clause-calls g c =
    let p =
    err_from_is_err_and c.from_residual-in_err-append_last.result c.from_residual-in_err-append_last.ensures.1 in
    rw (p.1, p.2) (
    let first = map output_value c.args.first.now in
    let names = map names_value c.args.names.now in
    let job = job_value c.args.job.now in
    let s = c.args.session in
    let grown = left_pieces names (advanced s) in
    let last = cut_pieces lasting_kinds names s.asks (whole_cut s).consoles in
    let Tells = g.O.Sink.Tells in
    let old = g.O.Sink.state c.args.out.now in
    let consoles_are : map console_value c.as_slice-consoles.result.now ≡ job.consoles =
    ap (map console_value) c.as_slice-consoles.ensures.value in
    λ files bytes long.
    let made : List Output =
    first ++ (outputs_of names job.consoles files ++ last_output (option_map (λ name. name.now) c.args.last) bytes) in
    let pieces : run_pieces names s ≡ grown ++ last =
    first-pieces names s c.requires.ready.left in
    let many : length files ≡ length c.as_slice-consoles.result.now =
    long ∙ sym (ap length consoles_are) ∙ length-map c.as_slice-consoles.result.now console_value in
    let created : PerformsAll Tells (map creation made) old (g.O.Sink.state c.create_all.new.out) Wrote =
    rw consoles_are at (c.in_ok-create_all.ensures files bytes many) in
    let added : PerformsAll Tells (map addition first) (g.O.Sink.state c.create_all.new.out)
    (g.O.Sink.state c.append_files.new.out) Wrote = c.in_ok-append_files.ensures in
    let grew : PerformsAll Tells (map addition grown) (g.O.Sink.state c.append_files.new.out)
    (g.O.Sink.state c.append_segments.new.out) Wrote =
    rw c.advance-session.ensures at c.in_ok-session.ensures.pieces in
    let t = c.in_ok-session.session in
    let last_is : cut_pieces lasting_kinds names t.asks (whole_cut t).consoles ≡ last =
    ap (λ asks. cut_pieces lasting_kinds names asks (whole_cut t).consoles)
    (last-asks s c.advance-session.result t c.advance-session.ensures c.in_ok-session.ensures.last)
    ∙ ap (λ (cut : Cut Machine). cut_pieces lasting_kinds names s.asks cut.consoles)
    (last-whole s c.advance-session.result t c.advance-session.ensures c.in_ok-session.ensures.last) in
    subst (λ (ps : List Output). PerformsAll Tells (map creation made ++ map addition (first ++ ps)) old
    (g.O.Sink.state c.append_last.new.out) (write_stop_value c.in_err-append_last.field-0.0)) (sym pieces)
    (grown-added Tells made first grown last old (g.O.Sink.state c.create_all.new.out) created
    (g.O.Sink.state c.append_files.new.out) added
    (g.O.Sink.state c.append_segments.new.out) grew (g.O.Sink.state c.append_last.new.out)
    (write_stop_value c.in_err-append_last.field-0.0)
    (subst (λ (ps : List Output). PerformsAll Tells (map addition ps) (g.O.Sink.state c.append_segments.new.out)
    (g.O.Sink.state c.append_last.new.out) (write_stop_value c.in_err-append_last.field-0.0)) last_is
    c.in_err-append_last.ensures))
    )

pub returns-clause-calls : goal.returns-clause-calls
returns-clause-calls g c =
    let first = map output_value c.args.first.now in
    let names = map names_value c.args.names.now in
    let job = job_value c.args.job.now in
    let s = c.args.session in
    let grown = left_pieces names (advanced s) in
    let last = cut_pieces lasting_kinds names s.asks (whole_cut s).consoles in
    let Tells = g.O.Sink.Tells in
    let old = g.O.Sink.state c.args.out.now in
    let consoles_are : map console_value c.as_slice-consoles.result.now ≡ job.consoles =
    ap (map console_value) c.as_slice-consoles.ensures.value in
    λ files bytes long.
    let made : List Output =
    first ++ (outputs_of names job.consoles files ++ last_output (option_map (λ name. name.now) c.args.last) bytes) in
    let pieces : run_pieces names s ≡ grown ++ last =
    first-pieces names s c.requires.ready.left in
    let many : length files ≡ length c.as_slice-consoles.result.now =
    long ∙ sym (ap length consoles_are) ∙ length-map c.as_slice-consoles.result.now console_value in
    let created : PerformsAll Tells (map creation made) old (g.O.Sink.state c.create_all.new.out) Wrote =
    rw consoles_are at (c.in_ok-create_all.ensures files bytes many) in
    let added : PerformsAll Tells (map addition first) (g.O.Sink.state c.create_all.new.out)
    (g.O.Sink.state c.append_files.new.out) Wrote = c.in_ok-append_files.ensures in
    let grew : PerformsAll Tells (map addition grown) (g.O.Sink.state c.append_files.new.out)
    (g.O.Sink.state c.append_segments.new.out) Wrote =
    rw c.advance-session.ensures at c.in_ok-session.ensures.pieces in
    let t = c.in_ok-session.session in
    let last_is : cut_pieces lasting_kinds names t.asks (whole_cut t).consoles ≡ last =
    ap (λ asks. cut_pieces lasting_kinds names asks (whole_cut t).consoles)
    (last-asks s c.advance-session.result t c.advance-session.ensures c.in_ok-session.ensures.last)
    ∙ ap (λ (cut : Cut Machine). cut_pieces lasting_kinds names s.asks cut.consoles)
    (last-whole s c.advance-session.result t c.advance-session.ensures c.in_ok-session.ensures.last) in
    subst (λ (ps : List Output). PerformsAll Tells (map creation made ++ map addition (first ++ ps)) old
    (g.O.Sink.state c.append_last.new.out) (Wrote)) (sym pieces)
    (grown-added Tells made first grown last old (g.O.Sink.state c.create_all.new.out) created
    (g.O.Sink.state c.append_files.new.out) added
    (g.O.Sink.state c.append_segments.new.out) grew (g.O.Sink.state c.append_last.new.out) Wrote
    (subst (λ (ps : List Output). PerformsAll Tells (map addition ps) (g.O.Sink.state c.append_segments.new.out)
    (g.O.Sink.state c.append_last.new.out) Wrote) last_is c.in_ok-append_last.ensures))

pub returns-clause-last : goal.returns-clause-last
returns-clause-last g c =
    let s = c.args.session in
    let l = c.in_ok-session.ensures.last in
    let more = advances s in
    record {
      over = l.over;
      start = l.start ∙ ap (λ (x : Consoles). x.start) c.advance-session.ensures ∙ more.start;
      until = l.until ∙ ap (λ (x : Consoles). x.until) c.advance-session.ensures ∙ more.until;
      asks = last-asks s c.advance-session.result c.in_ok-session.session c.advance-session.ensures l;
    }
