use Rattle.std.proofs.Common.{◌≡◌, ℕ, List, map, subst}
use Rattle.std.specs.Prelude.{IfOk}
use Rattle.gba_image.specs.declared.images.ConsoleImages.{ConsoleImages}
use Rattle.gba_inputs.specs.Views.{inputs_value}
use Rattle.gba_joblog.specs.Job.{WholeJob}
use Rattle.gba_joblog.specs.Log.{log_text}
use Rattle.gba_joblog.specs.Views.{job_value}
use Rattle.gba_link.specs.FreezePlan.{frozen_under}
use Rattle.gba_link.specs.RunPlan.{images_in}
use Rattle.gba_run_files.specs.Frozen.{job_until}
use Rattle.sha2.specs.Sha256.{sha256}
use Rattle.gba_link.proofs.freezing.freeze_inputs.Goals as goal

pub returns : goal.returns
returns c =
    let made = c.in_ok-job in
    let out = c.args.words.now.run.out.now in
    let clock = c.args.words.now.clock in
    let inputs = map inputs_value c.args.inputs.items in
    let plain : WholeJob = job_value made.job in
    let Is : WholeJob → List ℕ → List ConsoleImages → Type 0 = λ job digest images.
    IfOk c.new.result (λ run. run ≡ frozen_under out job digest images) in
    let shortened : Is (job_until clock plain) c.in_ok-digest.digest made.images.items =
    subst (λ (job : WholeJob). Is job c.in_ok-digest.digest made.images.items) c.until_clock-job.ensures.value
    c.new.ensures in
    let digested : Is (job_until clock plain) (sha256 (log_text plain)) made.images.items =
    subst (λ (digest : List ℕ). Is (job_until clock plain) digest made.images.items) c.in_ok-digest.ensures shortened in
    let shown : Is (job_until clock plain) (sha256 (log_text plain)) (map images_in inputs) =
    subst (λ (images : List ConsoleImages). Is (job_until clock plain) (sha256 (log_text plain)) images)
    made.ensures.images digested in
    subst (λ (job : WholeJob). Is (job_until clock job) (sha256 (log_text job)) (map images_in inputs))
    made.ensures.filled shown
