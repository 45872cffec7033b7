use Rattle.gba_session.proofs.SoFar.{SoFar}
use Rattle.gba_session.proofs.Forgetting.{Forgets}
use Rattle.gba_session.proofs.running.forget_each.Given as goal

-- the consoles so far
abbrev pub invariant-loop-player : goal.invariant-loop-player
invariant-loop-player l = SoFar (Forgets l.until) l.player l.fn.consoles.items l.consoles.items
