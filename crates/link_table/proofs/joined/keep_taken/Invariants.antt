use Rattle.link_table.proofs.Unitings.{KeepsTaken}
use Rattle.link_table.proofs.joined.keep_taken.Given as goal

abbrev pub invariant-loop-j : goal.invariant-loop-j
invariant-loop-j g l = KeepsTaken l.fn.fetched l.fetched l.seat.made.peers l.i l.j
