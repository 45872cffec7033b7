use Rattle.gba_timer.proofs.Before.{counts-before}
use Rattle.gba_timer.proofs.laws.counts_before.Goals as goal

pub returns : goal.returns
returns c = counts-before
