use Rattle.std.proofs.Common.{◌≡◌, ◌-◌, ℕ, ◌∙◌, ap, sym, arith}
use Rattle.std.specs.Prelude.{List}
use Rattle.gba_console.specs.declared.keys.KeyState.{KeyState}
use Rattle.gba_io.specs.Board.{board_at_start, board_begun_at}
use Rattle.gba_io.specs.declared.board.Board.{Board}
use Rattle.gba_console.specs.Keys.{next_due}
use Rattle.gba_console.specs.Machine.{first_on}
use Rattle.gba_console.proofs.Resting.{reset-kept}
use Rattle.gba_console.proofs.Console.new.Goals as goal

pub invariant_of-result : goal.invariant_of-result
invariant_of-result c =
    let room = c.args.room in
    let images = c.args.images in
    let start =
    board_at_start c.args.player c.args.count c.args.round images.bios images.cart images.save images.backup room in
    let is : c.begin_at.new.self ≡ board_begun_at (first_on c.args.off 0) room.until start
    = c.begin_at.ensures
    ∙ ap (λ (n : ℕ). board_begun_at n room.until c.in_ok-board.board) c.first_on.ensures.value
    ∙ ap (board_begun_at (first_on c.args.off 0) room.until) c.in_ok-board.ensures in
    let clock = ap (λ (b : Board). b.core.devices.clock) is in (
      c.in_ok-words_of.ensures,
      c.in_ok-halves_of.ensures.length,
      omega arith,
      c.due_at.ensures
          ∙ ap (λ (changes : List KeyState). next_due c.args.off 0 changes) c.as_slice.ensures.value
          ∙ ap (λ (n : ℕ). next_due c.args.off n c.args.keys.items) (sym clock),
      omega arith,
      reset-kept c.args.off (c.begin_at.new.self.core.devices.clock - 0) room.until c.begin_at.new.self c.args.player
          c.args.count c.args.round images.bios images.cart images.save images.backup room c.requires.off
          (omega (arith, clock)) (omega (arith, c.requires.until)) c.requires.player is,
      c.in_ok-halves_of.ensures.stand c.begin_at.new.self.core.memory.bios c.begin_at.new.self.core.memory.rom,
    )
