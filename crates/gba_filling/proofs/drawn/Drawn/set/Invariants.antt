use Rattle.std.proofs.Common.{◌≡◌, ◌≤◌, false}
use Rattle.std.specs.Vec.{vec_capacity}
use Rattle.gba_filling.specs.Drawn.{lines_in}
use Rattle.gba_filling.proofs.drawn.Drawn.set.Given as goal

abbrev pub invariant-loop-line : goal.invariant-loop-line
invariant-loop-line l = record {
  lines : l.self-inside.lines.items ≡ lines_in l.line l.colours;
  gap : l.self-inside.has_gap ≡ false;
  room : 159 ≤ vec_capacity l.self-inside.lines;
}
