use Rattle.std.proofs.Common.{[], ◌∷◌}
use Rattle.gba_arm_table.specs.Diagrams.{condition_part, flag_part, is_immediate, operand_parts, part}
use Rattle.gba_arm_table.proofs.Packing.{pack-nested, widths-operand}
use Rattle.gba_arm_table.proofs.encoding.processing_word.Goals as goal

pub returns : goal.returns
returns c =
    cc (pack-nested
    (condition_part c.args.cond ∷ part 2 0 ∷ flag_part (is_immediate c.args.operand) ∷ part 4 c.args.number
    ∷ flag_part c.args.set ∷ part 4 c.args.rn ∷ part 4 c.args.rd ∷ [])
    (operand_parts c.args.operand) 12 (widths-operand c.args.operand))
