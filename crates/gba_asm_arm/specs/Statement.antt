-- What an ARM statement says.
use Rattle.std.specs.Prelude.{ℕ, Bool, Option}
use Rattle.gba_arm_table.specs.declared.operation.ArmOp.{ArmOp}
use Rattle.gba_arm_table.specs.declared.operation.Condition.{Condition}
use Rattle.gba_asm_words.specs.Readers.{Target, target_value}
use Rattle.gba_asm_arm.specs.declared.statement.ArmStatement as written
use Rattle.gba_asm_arm.specs.declared.statement.ArmStatement.TheVariants as statement

-- an operation, None where a number has no encoding; a branch to a target; a load of the word at a target
pub data ArmStatement : Type 0 where
  Operation : Option ArmOp → ArmStatement
  Branch : Condition → Bool → Target → ArmStatement
  Load : Condition → ℕ → Target → ArmStatement

-- what a statement of the program stands for
abbrev pub statement_value : written.ArmStatement → ArmStatement
statement_value (statement.Operation op) = Operation op
statement_value (statement.Branch cond link target) = Branch cond link (target_value target)
statement_value (statement.Load cond rd target) = Load cond rd (target_value target)
