use Rattle.std.proofs.Common.{◌≡◌, ◌≤◌, ◌-◌, ◌++◌, drop, length}
use Rattle.gba_dis.specs.Listing.{lines_of}
use Rattle.gba_dis.specs.Units.{is_thumb, units}
use Rattle.gba_dis.proofs.listing.add_lines.Given as goal

abbrev pub invariant-loop-unit : goal.invariant-loop-unit
invariant-loop-unit l = record {
  within : l.at ≤ length l.bytes;
  text : l.text.items ++ lines_of (is_thumb l.set) l.at (units l.set (drop l.at l.bytes))
      ≡ l.initial.text.items ++ lines_of (is_thumb l.set) 0 (units l.set l.bytes);
}

abbrev pub decreases-loop-unit : goal.decreases-loop-unit
decreases-loop-unit l = length l.bytes - l.at
