use Rattle.gba_frozen_print.proofs.RowsAgain.{rows-again}
use Rattle.gba_frozen_print.proofs.laws.rows_again.Goals as goal

pub returns : goal.returns
returns c = rows-again
