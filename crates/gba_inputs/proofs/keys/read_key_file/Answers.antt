use Rattle.std.proofs.lemmas.Result.{err_from_is_err_and}
use Rattle.gba_joblog.specs.Views.{file_value}
use Rattle.gba_inputs.specs.Views.{changes_value}
use Rattle.gba_inputs.proofs.FilePlans.{keys-go, keys-stop}
use Rattle.gba_inputs.proofs.keys.read_key_file.Goals as goal

pub returns-in_err-bytes : goal.returns-in_err-bytes
returns-in_err-bytes g c =
    let gives = g.S.Store.gives in
    let p = err_from_is_err_and c.from_residual.result c.from_residual.ensures.1 in
    rw (p.1, p.2)
    (keys-stop gives (file_value c.args.file.now) _ _ _ _ _ c.name_of-name.ensures.name c.name_in_report.ensures
    c.in_err-bytes.ensures.goes)

pub returns : goal.returns
returns g c =
    let gives = g.S.Store.gives in
    keys-go gives changes_value (file_value c.args.file.now) _ _ _ _ c.in_ok-bytes.bytes.items c.judge_keys.result
    c.name_of-name.ensures.name c.name_in_report.ensures c.in_ok-bytes.ensures.goes
    (rw c.as_slice.ensures.value at c.judge_keys.ensures)
