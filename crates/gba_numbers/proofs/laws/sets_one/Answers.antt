use Rattle.gba_numbers.proofs.Setting.{taken, others, stays_whole}
use Rattle.gba_numbers.proofs.laws.sets_one.Goals as goal

pub returns : goal.returns
returns c = record { taken = taken; others = others; whole = stays_whole }
