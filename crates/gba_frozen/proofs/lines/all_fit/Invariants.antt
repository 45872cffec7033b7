use Rattle.std.proofs.Common.{◌≡◌, drop}
use Rattle.gba_frozen.specs.Rows.{all_fit}
use Rattle.gba_frozen.proofs.lines.all_fit.Given as goal

-- the values so far fit
abbrev pub invariant-loop-part : goal.invariant-loop-part
invariant-loop-part l = all_fit l.until l.row l.part (drop l.part l.values) ≡ all_fit l.until l.row 0 l.values
