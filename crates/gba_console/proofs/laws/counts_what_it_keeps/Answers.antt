use Rattle.gba_console.proofs.Counting.{counts-always}
use Rattle.gba_console.proofs.laws.counts_what_it_keeps.Goals as goal

pub returns : goal.returns
returns c = counts-always c.cycle_keeps.ensures c.acts_pass.ensures c.board_passes.ensures.all
