use Rattle.gba_session.proofs.SoFar.{SoFar}
use Rattle.gba_session.specs.Digests.{AddsHere}
use Rattle.gba_session.proofs.digests.add_in_turn.Given as goal

-- the players so far
abbrev pub invariant-loop-player : goal.invariant-loop-player
invariant-loop-player l = SoFar (AddsHere l.session) l.player l.fn.each.items l.each.items
