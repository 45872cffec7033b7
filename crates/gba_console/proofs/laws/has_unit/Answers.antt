use Rattle.gba_console.proofs.Touching.{has-unit}
use Rattle.gba_console.proofs.laws.has_unit.Goals as goal

pub returns : goal.returns
returns c = has-unit c.board_passes.ensures.all c.steps_pass.ensures
