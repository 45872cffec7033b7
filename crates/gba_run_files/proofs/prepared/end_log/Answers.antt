use Rattle.std.proofs.Common.{◌≡◌, ℕ, List, ◌∙◌, length, map, ap, sym, subst, arith, rules, vec_len}
use Rattle.std.specs.Vec.{with_items}
use Rattle.std.proofs.lemmas.List.{length-map, places, with_items_is}
use Rattle.gba_inputs.specs.Filled.{with_outputs}
use Rattle.gba_joblog.specs.Job.{ConsoleJob, WholeJob}
use Rattle.gba_joblog.specs.Log.{log_text}
use Rattle.gba_joblog.specs.Soundness.{IsJob}
use Rattle.gba_joblog.specs.Views.{console_value, job_value}
use Rattle.gba_joblog.specs.declared.outputs.PerKind.{PerKind}
use Rattle.gba_session.specs.Files.{all_files}
use Rattle.gba_session.specs.Session.{whole_cut}
use Rattle.gba_run_files.proofs.LogRoom.{log-more, logged-sound}
use Rattle.gba_run_files.specs.Outputs.{all_outs}
use Rattle.gba_run_files.specs.Written.{files_at, logged}
use Rattle.gba_run_files.proofs.prepared.end_log.Goals as goal

abbrev with_consoles : WholeJob → List ConsoleJob → WholeJob
with_consoles job consoles = record job { consoles = consoles }

pub print-requires-clause-sound : goal.print-requires-clause-sound
print-requires-clause-sound c =
    let job = job_value c.args.job.now in
    let ms = (whole_cut c.args.session.now).consoles in
    let made = files_at job (whole_cut c.args.session.now) in
    let old = c.args.job.now.consoles in
    let new = c.state_consoles-cause.new.consoles in
    let cut_is = c.as_mut_slice.ensures.value in
    let items : (with_items old new).items ≡ new = with_items_is old new (search (rules, places)) in
    let asked : all_files c.args.session.now.asks ms ≡ made = ap (λ asks. all_files asks ms) c.requires.asks in
    let consoles : map console_value (with_items old new).items
    ≡ with_outputs job.consoles (all_outs job.consoles made) =
    ap (map console_value) items ∙ (rw c.requires.digests at c.state_consoles-cause.ensures.consoles)
    ∙ ap (λ cs. with_outputs (map console_value cs)
    (all_outs (map console_value cs) (all_files c.args.session.now.asks ms))) cut_is
    ∙ ap (λ (files : List (PerKind (List ℕ))). with_outputs job.consoles (all_outs job.consoles files)) asked in
    let whole : with_consoles job (map console_value (with_items old new).items) ≡ logged job made =
    ap (with_consoles job) consoles in
    subst IsJob (sym whole) (logged-sound job made c.requires.sound
    (omega (
      arith,
      (rw c.requires.digests at c.state_consoles-cause.ensures.many),
      ap length asked,
      ap length cut_is,
      length-map old.items console_value,
    )))

pub print-requires-clause-room : goal.print-requires-clause-room
print-requires-clause-room c =
    let job = job_value c.args.job.now in
    let ms = (whole_cut c.args.session.now).consoles in
    let made = files_at job (whole_cut c.args.session.now) in
    let old = c.args.job.now.consoles in
    let new = c.state_consoles-cause.new.consoles in
    let cut_is = c.as_mut_slice.ensures.value in
    let items : (with_items old new).items ≡ new = with_items_is old new (search (rules, places)) in
    let asked : all_files c.args.session.now.asks ms ≡ made = ap (λ asks. all_files asks ms) c.requires.asks in
    let consoles : map console_value (with_items old new).items
    ≡ with_outputs job.consoles (all_outs job.consoles made) =
    ap (map console_value) items ∙ (rw c.requires.digests at c.state_consoles-cause.ensures.consoles)
    ∙ ap (λ cs. with_outputs (map console_value cs)
    (all_outs (map console_value cs) (all_files c.args.session.now.asks ms))) cut_is
    ∙ ap (λ (files : List (PerKind (List ℕ))). with_outputs job.consoles (all_outs job.consoles files)) asked in
    let whole : with_consoles job (map console_value (with_items old new).items) ≡ logged job made =
    ap (with_consoles job) consoles in
    let none : vec_len c.args.log.now ≡ length c.args.log.now.items = search rules in
    omega (
      arith,
      none,
      ap length c.requires.empty,
      ap (λ (j : WholeJob). length (log_text j)) whole,
      log-more job made c.requires.sound,
      c.requires.room,
    )
