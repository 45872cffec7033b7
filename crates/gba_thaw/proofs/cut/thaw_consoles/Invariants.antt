use Rattle.gba_thaw.proofs.Loops.{SoFar}
use Rattle.gba_thaw.proofs.cut.thaw_consoles.Given as goal

-- the consoles so far
abbrev pub invariant-loop-player : goal.invariant-loop-player
invariant-loop-player l = SoFar l.until l.player l.fn.consoles.items l.consoles.items l.loose
