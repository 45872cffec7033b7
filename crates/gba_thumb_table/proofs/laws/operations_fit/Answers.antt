use Rattle.gba_thumb_table.proofs.Reading.{operation-Fits}
use Rattle.gba_thumb_table.proofs.laws.operations_fit.Goals as goal

pub returns : goal.returns
returns c = operation-Fits
