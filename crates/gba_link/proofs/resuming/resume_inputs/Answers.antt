use Rattle.std.proofs.Common.{◌≡◌, ◌∙◌, map, Err, ap, subst, sym}
use Rattle.gba_command.specs.Views.{resume_words_value}
use Rattle.gba_frozen.specs.declared.kinds.ThawKind.{ThawKind}
use Rattle.gba_inputs.specs.Filled.{filled}
use Rattle.gba_inputs.specs.Views.{inputs_value}
use Rattle.gba_joblog.specs.Job.{WholeJob}
use Rattle.gba_joblog.specs.Views.{job_value}
use Rattle.gba_link.proofs.Thawed.{refused_run, thawed-as}
use Rattle.gba_link.specs.ResumePlan.{frozen_refusal, thawed_run}
use Rattle.gba_link.specs.RunPlan.{images_in}
use Rattle.gba_run_files.specs.Frozen.{job_unstated}
use Rattle.gba_text.specs.declared.kinds.LineError.{LineError}
use Rattle.gba_thaw.specs.Cut.{thaw_of}
use Rattle.gba_thaw.specs.Refused.{IsRefusal}
use Rattle.gba_link.proofs.resuming.resume_inputs.Goals as goal

pub returns-in-Err-Frozen : goal.returns-in-Err-Frozen
returns-in-Err-Frozen c =
    let words = resume_words_value c.args.words.now in
    let inputs = map inputs_value c.args.inputs.items in
    let said : WholeJob = job_unstated (filled (job_value c.args.job) inputs) in
    let thawed =
    thawed-as c.thaws_plainly.ensures (job_value c.in-Ok.job) said c.in-Ok.images.items (map images_in inputs)
    c.in-Ok-log_digest.digest c.args.bytes.now c.in-Ok-start_cut.start c.in-Ok.ensures.filled c.in-Ok.ensures.images
    c.in-Ok-log_digest.ensures c.in-Ok-start_cut.ensures.start in
    let refused : thaw_of c.in-Ok-log_digest.digest (job_value c.in-Ok.job).cycles c.in-Ok-start_cut.start
    c.args.bytes.now
    ≡ Err c.in-Err-Frozen.error =
    subst (IsRefusal
    (thaw_of c.in-Ok-log_digest.digest (job_value c.in-Ok.job).cycles c.in-Ok-start_cut.start c.args.bytes.now))
    c.in-Err-Frozen.field-0-is c.in-Err-Frozen.ensures.refused in
    ap (thawed_run words said) (thawed ∙ refused)
    ∙ ap (λ (error : LineError ThawKind). refused_run (frozen_refusal words error)) (sym c.in-Err-Frozen.error-is)
    ∙ ap refused_run (sym c.frozen_cause.ensures)
