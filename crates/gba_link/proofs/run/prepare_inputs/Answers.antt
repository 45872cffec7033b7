use Rattle.std.proofs.Common.{List, map, ap, ◌∙◌}
use Rattle.gba_command.specs.Views.{output_value}
use Rattle.gba_image.specs.declared.images.ConsoleImages.{ConsoleImages}
use Rattle.gba_inputs.specs.Views.{inputs_value}
use Rattle.gba_joblog.specs.Job.{WholeJob}
use Rattle.gba_joblog.specs.Views.{job_value}
use Rattle.gba_link.specs.RunPlan.{images_in, run_under}
use Rattle.gba_run_files.specs.Written.{after_files}
use Rattle.gba_link.proofs.run.prepare_inputs.Goals as goal

pub returns : goal.returns
returns c =
    let out = c.args.out.now in
    let first = map output_value c.args.first.items in
    let made = c.in_ok-job in
    c.in_ok-run.ensures
    ∙ ap (λ (ones : List ConsoleImages). after_files first (run_under out (job_value made.job) ones))
    made.ensures.images
    ∙ ap (λ (j : WholeJob). after_files first (run_under out j (map images_in (map inputs_value c.args.inputs.items))))
    made.ensures.filled
