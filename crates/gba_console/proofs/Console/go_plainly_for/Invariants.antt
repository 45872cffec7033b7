use Rattle.std.proofs.Common.{◌≡◌, ◌+◌, ◌≤◌, true, None}
use Rattle.gba_io.specs.Core.{core_is_calm}
use Rattle.gba_serial.specs.Apart.{next_end}
use Rattle.gba_console.specs.Keys.{due_of}
use Rattle.gba_console.specs.Machine.{clock_of, left_of}
use Rattle.gba_console.specs.Run.{GoesAlone}
use Rattle.gba_console.proofs.Console.go_plainly_for.Given as goal

-- what is done is a row of steps, and some cycles are left before a step may be no plain one
abbrev pub invariant-loop-left : goal.invariant-loop-left
invariant-loop-left l = record {
  alone : GoesAlone (clock_of l.fn.self + l.most) l.fn.self l.self None;
  later : clock_of l.fn.self ≤ clock_of l.self;
  within : clock_of l.self + l.left ≤ clock_of l.fn.self + l.most;
  keys : clock_of l.fn.self + l.most ≤ due_of (left_of l.self);
  ends : clock_of l.fn.self + l.most ≤ next_end l.self.board.core.serial;
  some : 1 ≤ l.left;
  calm : core_is_calm l.self.board.core ≡ true;
  on : l.self.off ≤ clock_of l.self;
  until : l.self.board.made.until ≡ l.fn.self.board.made.until;
}

abbrev pub decreases-loop-left : goal.decreases-loop-left
decreases-loop-left l = l.left
