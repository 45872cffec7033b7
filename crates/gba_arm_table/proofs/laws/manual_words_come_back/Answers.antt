use Rattle.gba_arm_table.proofs.Writing.{encoding-operation}
use Rattle.gba_arm_table.proofs.laws.manual_words_come_back.Goals as goal

pub returns : goal.returns
returns c = encoding-operation
