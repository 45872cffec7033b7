use Rattle.gba_ppu_reg.proofs.Moving.{once}
use Rattle.gba_ppu_reg.proofs.laws.visits_once.Goals as goal

pub returns : goal.returns
returns c = record { once = λ first second p sound a b e. once first second p sound.dot a b e }
