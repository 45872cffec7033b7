use Rattle.std.proofs.Common.{length, ap, ◌∙◌}
use Rattle.gba_frozen.specs.Rows.{count_of}
use Rattle.gba_frozen_text.proofs.Ranges.{row-count}
use Rattle.gba_frozen_text.proofs.rows.add_row_of.Goals as goal

pub add_row-requires-clause-count : goal.add_row-requires-clause-count
add_row-requires-clause-count g c =
    ap length c.as_slice.ensures.value ∙ ap length c.row_values-values.ensures.values
    ∙ row-count c.args.row 0 (count_of c.args.row) (g.S.Freezing.numbers c.args.source.now)
