use Rattle.std.proofs.Common.{Ok}
use Rattle.gba_command.proofs.Plans.{goes-judged}
use Rattle.gba_inputs.specs.Views.{changes_value}
use Rattle.gba_inputs.proofs.keys.read_any_keys.Goals as goal

pub returns-in-None : goal.returns-in-None
returns-in-None g c =
    let gives = g.S.Store.gives in
    rw c.in-None.is (goes-judged gives changes_value (Ok c.args.changes.now) c.copy_of.result _ c.copy_of.ensures)
