use Rattle.gba_io.proofs.Cycling.{passes, quiet-board, unheard-board}
use Rattle.gba_io.proofs.laws.board_passes.Goals as goal

pub returns-clause-all : goal.returns-clause-all
returns-clause-all c = passes c.cycle_keeps.ensures

pub returns-clause-quiet : goal.returns-clause-quiet
returns-clause-quiet c = quiet-board

pub returns-clause-unheard : goal.returns-clause-unheard
returns-clause-unheard c = unheard-board c.cycle_keeps.ensures
