use Rattle.gba_console.specs.StepLaws.{steps-pass}
use Rattle.gba_console.proofs.laws.steps_pass.Goals as goal

pub returns : goal.returns
returns c = steps-pass c.acts_pass.ensures c.tells_once.ensures.once c.board_passes.ensures.all
