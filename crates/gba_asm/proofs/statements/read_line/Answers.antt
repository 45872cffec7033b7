use Rattle.std.proofs.Common.{arith}
use Rattle.gba_asm.proofs.Passes.{few_tokens}
use Rattle.gba_asm.proofs.statements.read_line.Goals as goal

pub read_statement-requires : goal.read_statement-requires
read_statement-requires c =
    let few = few_tokens c.args.line.now c.split_label.result.1.now c.in_default.ensures
    (rw c.code_of.ensures at c.split_label.ensures.rest) in
    rw c.new.ensures (omega (arith, few))
