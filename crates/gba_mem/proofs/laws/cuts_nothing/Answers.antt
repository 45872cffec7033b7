use Rattle.gba_mem.specs.Fits.{bytes-whole}
use Rattle.gba_mem.proofs.laws.cuts_nothing.Goals as goal

pub returns : goal.returns
returns c = bytes-whole
