use Rattle.gba_dis.proofs.Back.{comes_back}
use Rattle.gba_dis.proofs.laws.comes_back.Goals as goal

pub returns : goal.returns
returns c = record { law = comes_back }
