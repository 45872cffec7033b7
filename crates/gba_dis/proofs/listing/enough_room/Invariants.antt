use Rattle.std.proofs.Common.{◌≤◌, ◌-◌, length}
use Rattle.gba_dis.proofs.listing.enough_room.Given as goal

abbrev pub invariant-loop-unit : goal.invariant-loop-unit
invariant-loop-unit l = l.at ≤ length l.bytes

abbrev pub decreases-loop-unit : goal.decreases-loop-unit
decreases-loop-unit l = length l.bytes - l.at
