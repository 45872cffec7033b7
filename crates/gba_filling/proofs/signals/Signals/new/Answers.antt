use Rattle.gba_filling.proofs.SignalsKept.{none-sent}
use Rattle.gba_filling.proofs.signals.Signals.new.Goals as goal

pub returns : goal.returns
returns c = rw c.in_ok-with_capacity.ensures.items none-sent
