use Rattle.std.proofs.lemmas.Result.{err_from_is_err_and}
use Rattle.gba_joblog.specs.Views.{file_value}
use Rattle.gba_inputs.specs.InputsPlan.{save_form}
use Rattle.gba_inputs.specs.Views.{digested_value}
use Rattle.gba_inputs.proofs.FilePlans.{image-goes, image-stops}
use Rattle.gba_inputs.proofs.images.read_save.Goals as goal

pub returns-in_err-bytes : goal.returns-in_err-bytes
returns-in_err-bytes g c =
    let gives = g.S.Store.gives in
    let p = err_from_is_err_and c.from_residual.result c.from_residual.ensures.1 in
    rw (p.1, p.2)
    (image-stops gives (save_form c.args.backup) (file_value c.args.file.now) _ _ _ _ _ c.name_of-name.ensures.name
    c.name_in_report.ensures (rw c.length.ensures at c.in_err-bytes.ensures.goes))

pub returns : goal.returns
returns g c =
    let gives = g.S.Store.gives in
    image-goes gives digested_value (save_form c.args.backup) (file_value c.args.file.now) _ _ _ _
    c.in_ok-bytes.bytes.items c.judge_save.result
    c.name_of-name.ensures.name c.name_in_report.ensures (rw c.length.ensures at c.in_ok-bytes.ensures.goes)
    c.judge_save.ensures
