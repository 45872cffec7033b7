use Rattle.std.proofs.Common.{◌∙◌, ap, sym, subst}
use Rattle.std.specs.Prelude.{IfSome}
use Rattle.gba_terms.specs.Bits.{field}
use Rattle.gba_arm_table.specs.Limits.{Fits}
use Rattle.gba_arm_table.specs.Table.{operation, operation_of}
use Rattle.gba_arm_table.proofs.Branching.{format_in-rows}
use Rattle.gba_arm_table.proofs.Reading.{operation_of-fits}
use Rattle.gba_arm_table.proofs.decode.Goals as goal

pub returns-clause-operation : goal.returns-clause-operation
unfolding operation
returns-clause-operation c =
    c.of_format.ensures
    ∙ ap (λ format. operation_of format (field c.args.word)) (c.format_of.ensures ∙ sym (format_in-rows c.args.word))

pub returns-clause-fits : goal.returns-clause-fits
returns-clause-fits c = subst (λ result. IfSome result Fits) (sym c.of_format.ensures) (operation_of-fits _ c.args.word)
