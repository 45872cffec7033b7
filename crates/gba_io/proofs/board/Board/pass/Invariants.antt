use Rattle.std.proofs.Common.{◌≡◌}
use Rattle.gba_io.specs.Board.{HasRoom, board_after}
use Rattle.gba_io.proofs.board.Board.pass.Given as goal

-- the cycles that are left lead to the same end
abbrev pub invariant-loop-left : goal.invariant-loop-left
invariant-loop-left l = (board_after l.left l.self ≡ board_after l.cycles l.fn.self) × HasRoom l.left l.self

abbrev pub decreases-loop-left : goal.decreases-loop-left
decreases-loop-left l = l.left
