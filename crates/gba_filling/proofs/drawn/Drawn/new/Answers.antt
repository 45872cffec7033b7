use Rattle.gba_filling.proofs.DrawnLines.{none-drawn}
use Rattle.gba_filling.proofs.drawn.Drawn.new.Goals as goal

pub returns : goal.returns
returns c = rw c.in_ok-with_capacity.ensures.items none-drawn
