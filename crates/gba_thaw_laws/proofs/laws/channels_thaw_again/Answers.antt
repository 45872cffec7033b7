use Rattle.gba_thaw_laws.proofs.Channels.{channels-again}
use Rattle.gba_thaw_laws.proofs.laws.channels_thaw_again.Goals as goal

pub returns : goal.returns
returns c = channels-again
