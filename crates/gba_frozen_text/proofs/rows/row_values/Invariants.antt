use Rattle.std.proofs.Common.{◌≡◌, ◌-◌, ◌++◌, true}
use Rattle.std.specs.List.{list_all}
use Rattle.arrayvec.specs.ArrayVec.{array_vec_len}
use Rattle.gba_frozen.specs.Rows.{count_of, fits_spelling, spelling_of}
use Rattle.gba_frozen_text.specs.Text.{row_values}
use Rattle.gba_frozen_text.proofs.rows.row_values.Given as goal

abbrev pub invariant-loop-part : goal.invariant-loop-part
invariant-loop-part g l = record {
  items : l.values.items ++ row_values l.row l.part (count_of l.row - l.part) (g.S.Freezing.numbers l.source)
      ≡ row_values l.row 0 (count_of l.row) (g.S.Freezing.numbers l.source);
  len : array_vec_len l.values ≡ l.part;
  fit : list_all (fits_spelling (spelling_of l.row)) l.values.items ≡ true;
}
