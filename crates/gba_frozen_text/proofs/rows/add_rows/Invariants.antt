use Rattle.std.proofs.Common.{◌≡◌, ◌+◌, ◌*◌, ◌≤◌, ◌++◌, drop, vec_len}
use Rattle.std.specs.Prelude.{map, vec_capacity}
use Rattle.gba_frozen_text.specs.Text.{row_of, says_text}
use Rattle.gba_frozen_text.proofs.rows.add_rows.Given as goal

abbrev pub invariant-loop-row : goal.invariant-loop-row
invariant-loop-row g l = record {
  items : l.into.items ++ says_text (map (row_of (g.S.Freezing.numbers l.source)) (drop l.row-index l.rows))
      ≡ l.fn.into.items ++ says_text (map (row_of (g.S.Freezing.numbers l.source)) l.rows);
  len : vec_len l.into ≤ vec_len l.fn.into + 193 * l.row-index;
  room : vec_capacity l.fn.into ≤ vec_capacity l.into;
}
