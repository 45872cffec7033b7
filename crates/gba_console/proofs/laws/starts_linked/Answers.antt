use Rattle.gba_console.proofs.Linking.{starts-linked}
use Rattle.gba_console.proofs.laws.starts_linked.Goals as goal

pub returns : goal.returns
returns c = starts-linked
