use Rattle.gba_thaw_laws.proofs.Saying.{says-itself}
use Rattle.gba_thaw_laws.proofs.laws.says_itself.Goals as goal

pub returns : goal.returns
returns c = says-itself
