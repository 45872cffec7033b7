use Rattle.gba_loose.proofs.Tones.{tones-made-again}
use Rattle.gba_loose.proofs.laws.tones_again.Goals as goal

pub returns : goal.returns
returns c = tones-made-again
