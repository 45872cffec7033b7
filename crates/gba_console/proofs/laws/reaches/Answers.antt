use Rattle.std.specs.Prelude.{[]}
use Rattle.gba_console.proofs.Rises.{reaches}
use Rattle.gba_console.proofs.laws.reaches.Goals as goal

pub returns : goal.returns
returns c = reaches (c.steps_pass.ensures [])
