use Rattle.std.proofs.Common.{◌≡◌, ◌+◌, ◌-◌, ◌∙◌, sym, ap, arith}
use Rattle.gba_io.specs.Board.{board_after}
use Rattle.gba_io.proofs.Cycling.{board-none, board-sum, room-left}
use Rattle.gba_io.proofs.board.Board.pass.Goals as goal

pub loop-left-preserved : goal.loop-left-preserved
loop-left-preserved c =
    let before = c.loop-left.self in
    let some = c.pass_some-left.result in
    let rest = c.loop-left.left - some in
    let whole : rest + some ≡ c.loop-left.left = omega (arith, c.pass_some-left.ensures.most) in (
      ap (board_after rest) c.pass_some-left.ensures.board
          ∙ board-sum rest some before
          ∙ ap (λ n. board_after n before) whole
          ∙ c.loop-left.invariant.0,
      room-left some rest c.loop-left.left before c.pass_some-left.new.self whole c.pass_some-left.ensures.board
          (c.board_passes.ensures.all some before) c.loop-left.invariant.1,
    )

pub returns : goal.returns
returns c =
    let none : c.loop-left.left ≡ 0 = omega (arith, c.loop-left-test.false) in
    sym (board-none c.loop-left.self) ∙ ap (λ n. board_after n c.loop-left.self) (sym none) ∙ c.loop-left.invariant.0
