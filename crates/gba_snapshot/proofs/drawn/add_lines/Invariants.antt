use Rattle.std.proofs.Common.{◌≡◌, ◌+◌, ◌*◌, ◌≤◌, ◌++◌, drop, map, vec_len}
use Rattle.std.specs.Prelude.{vec_capacity}
use Rattle.gba_frozen_text.specs.Text.{drawn_of, says_text}
use Rattle.gba_snapshot.specs.Console.{drawn_from}
use Rattle.gba_snapshot.proofs.drawn.add_lines.Given as goal

abbrev pub invariant-loop-line : goal.invariant-loop-line
invariant-loop-line l = record {
  items : l.into.items ++ says_text (map drawn_of (drawn_from l.line (drop l.line l.core.lines)))
      ≡ l.fn.into.items ++ says_text (map drawn_of (drawn_from 0 l.core.lines));
  len : vec_len l.into ≤ vec_len l.fn.into + 978 * l.line;
  room : vec_capacity l.fn.into ≤ vec_capacity l.into;
}
