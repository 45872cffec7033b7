use Rattle.std.proofs.Common.{Option, Some, None, refl}
use Rattle.std.proofs.lemmas.Result.{err_from_is_err_and}
use Rattle.gba_command.proofs.Each.{goes-done}
use Rattle.gba_command.proofs.Plans.{goes-stop, goes-then}
use Rattle.gba_joblog.specs.Views.{file_value}
use Rattle.gba_inputs.specs.Inputs.{DigestedImage}
use Rattle.gba_inputs.specs.InputsPlan.{save_plan, found}
use Rattle.gba_inputs.specs.Views.{digested_value}
use Rattle.gba_inputs.proofs.images.read_any_save.Goals as goal

pub returns-in_err-save-in-Some : goal.returns-in_err-save-in-Some
returns-in_err-save-in-Some g c =
    let gives = g.S.Store.gives in
    let p = err_from_is_err_and c.from_residual.result c.from_residual.ensures.1 in
    rw (p.1, p.2, c.in-Some.is)
    (goes-stop gives (save_plan c.args.backup (file_value c.in-Some.file)) found _ _ _ c.in_err-save-in-Some.ensures)

pub returns-in_ok-save-in-Some : goal.returns-in_ok-save-in-Some
returns-in_ok-save-in-Some g c =
    let gives = g.S.Store.gives in
    let image = digested_value c.in_ok-save-in-Some.save in
    rw c.in-Some.is
    (goes-then gives (save_plan c.args.backup (file_value c.in-Some.file)) found _ _ _ image _
    c.in_ok-save-in-Some.ensures (goes-done gives (Some image) _ _ refl))

pub returns-in-None : goal.returns-in-None
returns-in-None g c =
    let gives = g.S.Store.gives in
    rw c.in-None.is (goes-done {X = Option DigestedImage} gives None None _ refl)
