use Rattle.gba_inputs.proofs.Replay.{replayed}
use Rattle.gba_inputs.proofs.laws.inputs_again.Goals as goal

pub returns : goal.returns
returns c = record { law = replayed }
