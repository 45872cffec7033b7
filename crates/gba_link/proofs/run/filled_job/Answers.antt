use Rattle.std.proofs.Common.{◌≡◌, List, map, ap, sym, subst, ◌∙◌, rules}
use Rattle.std.specs.Vec.{with_items}
use Rattle.std.proofs.lemmas.List.{places, with_items_is}
use Rattle.gba_image.specs.declared.images.ConsoleImages.{ConsoleImages}
use Rattle.gba_inputs.specs.Filled.{filled}
use Rattle.gba_inputs.specs.Views.{images_of, inputs_value}
use Rattle.gba_inputs.specs.declared.inputs.Inputs.{Inputs}
use Rattle.gba_joblog.specs.Job.{WholeJob}
use Rattle.gba_joblog.specs.Views.{job_value}
use Rattle.gba_link.specs.RunPlan.{images_in}
use Rattle.gba_session.specs.Start.{FitJob}
use Rattle.gba_link.proofs.Runs.{images-are, inputs-fit}
use Rattle.gba_link.proofs.run.filled_job.Goals as goal

pub returns-clause-filled : goal.returns-clause-filled
returns-clause-filled c =
    c.fill_job.ensures.filled
    ∙ ap (λ (xs : List Inputs). filled (job_value c.args.job) (map inputs_value xs)) c.as_mut_slice.ensures.value

pub returns-clause-images : goal.returns-clause-images
returns-clause-images c =
    let old = c.args.inputs in
    let new = c.fill_job.new.inputs in
    let items : (with_items old new).items ≡ new = with_items_is old new (search (rules, places)) in
    c.in_ok-images.ensures ∙ ap (map images_of) items ∙ c.fill_job.ensures.images
    ∙ ap (map images_of) c.as_mut_slice.ensures.value ∙ images-are old.items

pub returns-clause-fit : goal.returns-clause-fit
returns-clause-fit c =
    let job = job_value c.args.job in
    let inputs = map inputs_value c.args.inputs.items in
    let images = c.in_ok-images.images.items in
    let old = c.args.inputs in
    let new = c.fill_job.new.inputs in
    let items : (with_items old new).items ≡ new = with_items_is old new (search (rules, places)) in
    let kept : images ≡ map images_in inputs =
    c.in_ok-images.ensures ∙ ap (map images_of) items ∙ c.fill_job.ensures.images
    ∙ ap (map images_of) c.as_mut_slice.ensures.value ∙ images-are old.items in
    let filled_is : job_value c.fill_job.new.job ≡ filled job inputs =
    c.fill_job.ensures.filled
    ∙ ap (λ (xs : List Inputs). filled job (map inputs_value xs)) c.as_mut_slice.ensures.value in
    subst (λ (j : WholeJob). FitJob j images) (sym filled_is)
    (subst (λ (ones : List ConsoleImages). FitJob (filled job inputs) ones) (sym kept)
    (inputs-fit job.consoles inputs c.requires.inputs))
