use Rattle.gba_thumb_table.proofs.Writing.{encoding-operation}
use Rattle.gba_thumb_table.proofs.laws.halfwords_come_back.Goals as goal

pub returns : goal.returns
returns c = encoding-operation
