use Rattle.std.proofs.Common.{◌≡◌, ◌≤◌, length}
use Rattle.std.specs.List.{All}
use Rattle.gba_session.proofs.Hashing.{AreNew}
use Rattle.gba_session.proofs.digests.Digests.new.Given as goal

-- as many hashers as players so far, with no byte yet
abbrev pub invariant-loop-player : goal.invariant-loop-player
invariant-loop-player l =
    (length l.each.items ≡ l._player) × (l._player ≤ l._player-end) × All AreNew l.each.items
