use Rattle.std.proofs.Common.{◌≡◌, List, map, sym, subst, rules}
use Rattle.std.specs.List.{AllZip}
use Rattle.gba_generator.specs.Job.{job}
use Rattle.gba_inputs.specs.Inputs.{ConsoleInputs}
use Rattle.gba_inputs.specs.Law.{AreInputs}
use Rattle.gba_inputs.specs.Views.{inputs_value}
use Rattle.gba_joblog.specs.Job.{WholeJob}
use Rattle.gba_joblog.specs.Views.{job_value}
use Rattle.gba_link.proofs.Generated.{made-sound}
use Rattle.gba_link.specs.GeneratedRun.{made_inputs}
use Rattle.gba_link.proofs.generation.make.Goals as goal

pub prepare_inputs-requires-clause-inputs : goal.prepare_inputs-requires-clause-inputs
prepare_inputs-requires-clause-inputs c =
    let words = c.args.words.now in
    let read = map inputs_value c.in_ok-inputs.inputs.items in
    let same : read ≡ made_inputs words.number = search rules in
    let made : job_value c.in_ok-job.job ≡ job words.cycles words.out.now = c.in_ok-job.ensures.job in
    subst (λ (j : WholeJob). AllZip AreInputs j.consoles read) (sym made)
    (subst (λ (xs : List ConsoleInputs). AllZip AreInputs (job words.cycles words.out.now).consoles xs) (sym same)
    (made-sound words.number words.cycles words.out.now))
