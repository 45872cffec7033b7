use Rattle.std.proofs.Common.{ℕ, List, map, Ok, Err, subst}
use Rattle.std.proofs.lemmas.Result.{err_from_is_err_and}
use Rattle.gba_command.proofs.Plans.{goes-judged, goes-stop, goes-then}
use Rattle.gba_command.specs.Plan.{file}
use Rattle.gba_command.specs.Views.{Agrees, resume_words_value}
use Rattle.gba_frozen.specs.Reading.{longest_file}
use Rattle.gba_frozen.specs.declared.kinds.ThawKind.TheVariants.{Spelling}
use Rattle.gba_inputs.specs.Views.{inputs_value}
use Rattle.gba_joblog.specs.Views.{job_value}
use Rattle.gba_link.specs.ResumePlan.{after_frozen, frozen_refusal, run_or_refusal}
use Rattle.gba_link.specs.Work.{run_itself}
use Rattle.gba_text.specs.Languages.{error_at}
use Rattle.gba_link.proofs.resuming.resume_frozen.Goals as goal

pub returns-in_err-bytes : goal.returns-in_err-bytes
returns-in_err-bytes g c =
    let words = resume_words_value c.args.words.now in
    let job = job_value c.args.job in
    let inputs = map inputs_value c.args.inputs.items in
    let p = err_from_is_err_and c.from_residual.result c.from_residual.ensures.1 in
    rw (p.1, p.2)
    (goes-stop g.S.Store.gives (file words.frozen longest_file (frozen_refusal words (error_at 0 Spelling)))
    (after_frozen words job inputs) _ _ _ (rw c.frozen_cause-long.ensures at c.in_err-bytes.ensures.goes))

pub returns-in_err-run : goal.returns-in_err-run
returns-in_err-run g c =
    let words = resume_words_value c.args.words.now in
    let gives = g.S.Store.gives in
    let job = job_value c.args.job in
    let inputs = map inputs_value c.args.inputs.items in
    let bytes = c.in_ok-bytes.bytes.items in
    let p = err_from_is_err_and c.from_residual-in_err-run.result c.from_residual-in_err-run.ensures.1 in
    rw (p.1, p.2)
    (goes-then gives (file words.frozen longest_file (frozen_refusal words (error_at 0 Spelling)))
    (after_frozen words job inputs) _ _ _ bytes _ (rw c.frozen_cause-long.ensures at c.in_ok-bytes.ensures.goes)
    (goes-judged gives run_itself (run_or_refusal words job inputs bytes) (Err c.in_err-run.field-0.0) _
    (subst (λ (read : List ℕ). Agrees run_itself (run_or_refusal words job inputs read) (Err c.in_err-run.field-0.0))
    c.as_slice.ensures.value c.in_err-run.ensures)))

pub returns : goal.returns
returns g c =
    let words = resume_words_value c.args.words.now in
    let gives = g.S.Store.gives in
    let job = job_value c.args.job in
    let inputs = map inputs_value c.args.inputs.items in
    let bytes = c.in_ok-bytes.bytes.items in
    goes-then gives (file words.frozen longest_file (frozen_refusal words (error_at 0 Spelling)))
    (after_frozen words job inputs) _ _ _ bytes _ (rw c.frozen_cause-long.ensures at c.in_ok-bytes.ensures.goes)
    (goes-judged gives run_itself (run_or_refusal words job inputs bytes) (Ok c.in_ok-run.run') _
    (subst (λ (read : List ℕ). Agrees run_itself (run_or_refusal words job inputs read) (Ok c.in_ok-run.run'))
    c.as_slice.ensures.value c.in_ok-run.ensures))
