use Rattle.gba_dis.proofs.ArmTold.{words_told}
use Rattle.gba_dis.proofs.laws.tells_words.Goals as goal

pub returns : goal.returns
returns c = record { law = words_told }
