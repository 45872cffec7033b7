use Rattle.gba_session.proofs.SoFar.{SoFar}
use Rattle.gba_session.proofs.Taking.{Takes}
use Rattle.gba_session.proofs.running.take_in_turn.Given as goal

-- the players so far
abbrev pub invariant-loop-player : goal.invariant-loop-player
invariant-loop-player l = SoFar (Takes l.over l.consoles) l.player l.fn.players.items l.players.items
