use Rattle.gba_console.proofs.Linking.{records-ends}
use Rattle.gba_console.proofs.laws.records_ends.Goals as goal

pub returns : goal.returns
returns c = records-ends c.board_passes.ensures.all
