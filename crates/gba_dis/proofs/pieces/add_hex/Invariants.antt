use Rattle.std.proofs.Common.{◌≡◌, ◌≤◌, ◌++◌}
use Rattle.gba_terms.specs.Hexadecimal.{hex}
use Rattle.gba_dis.proofs.pieces.add_hex.Given as goal

abbrev pub invariant-loop-left : goal.invariant-loop-left
invariant-loop-left l = record {
  text : l.line.items ++ hex l.left l.number ≡ l.initial.line.items ++ hex l.fn.count l.number;
  few : l.left ≤ 8;
}

abbrev pub decreases-loop-left : goal.decreases-loop-left
decreases-loop-left l = l.left
