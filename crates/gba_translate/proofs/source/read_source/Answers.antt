use Rattle.std.proofs.lemmas.Result.{err_from_is_err_and}
use Rattle.gba_text.specs.Languages.{error_at}
use Rattle.gba_asm.specs.Assembly.{longest_source}
use Rattle.gba_asm_words.specs.declared.kinds.AsmKind.TheVariants.{Size}
use Rattle.gba_command.specs.Cause.{Source}
use Rattle.gba_command.specs.Plan.{file}
use Rattle.gba_command.specs.Views.{bytes_value}
use Rattle.gba_command.proofs.Plans.{goes-judged, goes-stop, goes-then}
use Rattle.gba_translate.specs.Translation.{assembled, judged_source}
use Rattle.gba_translate.proofs.source.read_source.Goals as goal

pub returns-in_err-source : goal.returns-in_err-source
returns-in_err-source g c =
    let name = c.args.name.now in
    let gives = g.S.Store.gives in
    let p = err_from_is_err_and c.from_residual.result c.from_residual.ensures.1 in
    rw (p.1, p.2)
    (goes-stop gives (file name longest_source (Source name (error_at 0 Size))) (judged_source name) _ _ _
    (rw c.name_in_report.ensures at c.in_err-source.ensures.goes))

pub returns : goal.returns
returns g c =
    let name = c.args.name.now in
    let gives = g.S.Store.gives in
    let bytes = c.in_ok-source.source.items in
    goes-then gives (file name longest_source (Source name (error_at 0 Size))) (judged_source name) _ _ _ bytes _
    (rw c.name_in_report.ensures at c.in_ok-source.ensures.goes)
    (goes-judged gives bytes_value (assembled name bytes) c.judge_source.result _
    (rw c.as_slice.ensures.value at c.judge_source.ensures))
