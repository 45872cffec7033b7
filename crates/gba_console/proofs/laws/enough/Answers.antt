use Rattle.std.specs.Prelude.{[]}
use Rattle.gba_console.proofs.Rises.{enough}
use Rattle.gba_console.proofs.laws.enough.Goals as goal

pub returns : goal.returns
returns c = λ until a b start. enough (c.steps_pass.ensures []) a b until start
