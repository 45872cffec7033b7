use Rattle.std.proofs.Common.{◌∙◌, sym, ap}
use Rattle.gba_io.specs.Board.{board_cycle}
use Rattle.gba_io.specs.Core.{Core}
use Rattle.gba_io.proofs.Cycling.{board-one}
use Rattle.gba_io.proofs.board.Board.pass_some.Goals as goal

pub returns-clause-board : goal.returns-clause-board
returns-clause-board c =
    let b = c.args.self.now in
    let passed = c.pass_quietly-quiet in
    let quiet = c.board_passes.ensures.quiet passed.result b passed.ensures.silent in
    c.cycle.ensures
    ∙ ap (λ (core : Core). board_cycle (record b { core = core })) passed.ensures.core
    ∙ ap board_cycle (sym quiet)
    ∙ board-one passed.result b
