use Rattle.gba_link.proofs.Counted.{counts-files}
use Rattle.gba_link.proofs.laws.counts_its_files.Goals as goal

pub returns : goal.returns
returns c = counts-files c.counts_what_it_keeps.ensures
