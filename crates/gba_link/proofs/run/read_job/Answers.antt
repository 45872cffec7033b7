use Rattle.std.proofs.Common.{option_map}
use Rattle.std.proofs.lemmas.Result.{err_from_is_err_and}
use Rattle.gba_command.specs.Plan.{file}
use Rattle.gba_command.specs.Views.{run_words_value}
use Rattle.gba_command.proofs.Plans.{goes-then, goes-stop, goes-judged}
use Rattle.gba_joblog.specs.Language.{longest_job}
use Rattle.gba_joblog.specs.Views.{job_value}
use Rattle.gba_joblog.specs.declared.kinds.JobKind.TheVariants.{Long}
use Rattle.gba_link.specs.RunPlan.{job_or_refusal_for, after_job_for, job_refusal}
use Rattle.gba_text.specs.Languages.{error_at}
use Rattle.gba_link.proofs.run.read_job.Goals as goal

pub returns-in_err-bytes-clause-goes : goal.returns-in_err-bytes-clause-goes
returns-in_err-bytes-clause-goes g c =
    let words = run_words_value c.args.words.now in
    let frozen = option_map (λ one. one.now) c.args.frozen in
    let more = option_map (λ one. one.now) c.args.more in
    let gives = g.S.Store.gives in
    let p = err_from_is_err_and c.from_residual.result c.from_residual.ensures.1 in
    rw (p.1, p.2)
    (goes-stop gives (file words.job longest_job (job_refusal words (error_at 0 Long)))
    (after_job_for frozen more words) _ _ _ (rw c.name_in_report.ensures at c.in_err-bytes.ensures.goes))

pub returns-clause-goes : goal.returns-clause-goes
returns-clause-goes g c =
    let words = run_words_value c.args.words.now in
    let frozen = option_map (λ one. one.now) c.args.frozen in
    let more = option_map (λ one. one.now) c.args.more in
    let gives = g.S.Store.gives in
    let bytes = c.in_ok-bytes.bytes.items in
    goes-then gives (file words.job longest_job (job_refusal words (error_at 0 Long))) (after_job_for frozen more words)
    _ _ _ bytes _ (rw c.name_in_report.ensures at c.in_ok-bytes.ensures.goes)
    (goes-judged gives job_value (job_or_refusal_for frozen more words bytes) c.accepted_job.result _
    (rw c.as_slice.ensures.value at c.accepted_job.ensures.agrees))
