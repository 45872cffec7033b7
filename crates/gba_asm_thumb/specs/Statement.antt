-- What a Thumb statement says.
use Rattle.std.specs.Prelude.{ℕ, Option}
use Rattle.gba_thumb_table.specs.declared.operation.ThumbOp.{ThumbOp}
use Rattle.gba_asm_words.specs.Readers.{Target, target_value}
use Rattle.gba_asm_thumb.specs.declared.statement.ThumbStatement as written
use Rattle.gba_asm_thumb.specs.declared.statement.ThumbStatement.TheVariants as statement

-- an operation, None where a number has no encoding; a branch to a target; one under the condition of a number; a call
pub data ThumbStatement : Type 0 where
  Operation : Option ThumbOp → ThumbStatement
  Branch : Target → ThumbStatement
  BranchIf : ℕ → Target → ThumbStatement
  Call : Target → ThumbStatement

-- what a statement of the program stands for
abbrev pub statement_value : written.ThumbStatement → ThumbStatement
statement_value (statement.Operation op) = Operation op
statement_value (statement.Branch target) = Branch (target_value target)
statement_value (statement.BranchIf cond target) = BranchIf cond (target_value target)
statement_value (statement.Call target) = Call (target_value target)
