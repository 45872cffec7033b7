use Rattle.std.proofs.Common.{[], ◌∷◌}
use Rattle.gba_arm_table.specs.Diagrams.{condition_part, flag_part, is_immediate_source, source_parts, part}
use Rattle.gba_arm_table.proofs.Packing.{pack-nested, widths-source}
use Rattle.gba_arm_table.proofs.encoding.write_status.Goals as goal

pub returns : goal.returns
returns c =
    cc (pack-nested
    (condition_part c.args.cond ∷ part 2 0 ∷ flag_part (is_immediate_source c.args.source) ∷ part 2 2
    ∷ flag_part c.args.saved ∷ part 2 2 ∷ part 4 c.args.fields ∷ part 4 15 ∷ [])
    (source_parts c.args.source) 12 (widths-source c.args.source))
