use Rattle.std.proofs.Common.{◌≡◌, ◌-◌, ◌<◌, ◌≤◌, None}
use Rattle.gba_console.specs.Idling.{CanIdle}
use Rattle.gba_console.specs.Machine.{clock_of}
use Rattle.gba_console.specs.Run.{GoesAlone}
use Rattle.gba_console.proofs.Console.go_idly.Given as goal

-- what is done is a row of steps that told nothing, and idling can go on
abbrev pub invariant-loop-self : goal.invariant-loop-self
invariant-loop-self l = record {
  alone : GoesAlone l.end l.fn.self l.self None;
  later : clock_of l.fn.self ≤ clock_of l.self;
  within : l.stop ≤ l.end;
  idles : clock_of l.self < l.stop → CanIdle l.stop l.self;
  until : l.self.board.made.until ≡ l.fn.self.board.made.until;
}

abbrev pub decreases-loop-self : goal.decreases-loop-self
decreases-loop-self l = l.stop - clock_of l.self
