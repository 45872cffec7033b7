use Rattle.gba_inputs.proofs.SoundInputs.{filled-sound}
use Rattle.gba_inputs.proofs.laws.filled_sound.Goals as goal

pub returns : goal.returns
returns c = record { law = filled-sound }
