use Rattle.gba_frozen_text.proofs.First.{first_is_whole}
use Rattle.gba_frozen_text.proofs.laws.first_is_whole.Goals as goal

pub returns : goal.returns
returns c = first_is_whole
