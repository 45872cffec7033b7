use Rattle.gba_inputs.proofs.SoundInputs.{inputs-sound}
use Rattle.gba_inputs.proofs.laws.inputs_sound.Goals as goal

pub returns : goal.returns
returns c = record { law = inputs-sound }
