use Rattle.std.proofs.Common.{◌≡◌, ◌-◌}
use Rattle.gba_console.specs.Machine.{clock_of}
use Rattle.gba_console.specs.Run.{run_to}
use Rattle.gba_console.proofs.Console.run_to.Given as goal

-- what is left of the run leads to the same end
abbrev pub invariant-loop : goal.invariant-loop
invariant-loop l = record {
  same : run_to l.until l.self ≡ run_to l.until l.fn.self;
  until : l.self.board.made.until ≡ l.fn.self.board.made.until;
}

abbrev pub decreases-loop : goal.decreases-loop
decreases-loop l = l.until - clock_of l.self
