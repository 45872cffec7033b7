use Rattle.std.proofs.Common.{ℕ, Bool, true, false, List, if◌then◌else◌, arith}
use Rattle.std.specs.Prelude.{Option}
use Rattle.gba_terms.specs.Bits.{field}
use Rattle.gba_arm_table.specs.Numbers.{condition_of}
use Rattle.gba_arm_table.specs.Table.{operation}
use Rattle.gba_arm_table.specs.declared.operation.ArmOp.{ArmOp}
use Rattle.gba_bus.specs.Meanings.{CodePriced, Load, Price, Store}
use Rattle.gba_psr.specs.RegisterFile.{flags}
use Rattle.gba_exec_registers.specs.Access.{code_cost, code_width}
use Rattle.gba_exec_registers.specs.Conditions.{holds}
use Rattle.gba_exec_registers.specs.declared.site.Site.{Site}
use Rattle.gba_exec_transfers.specs.Done.{Done, IsStepLength}
use Rattle.gba_exec_transfers.specs.Effects.{effect_of_word, internal}
use Rattle.gba_arm_exec.specs.Execution.{execution, site_of, with_next}

-- How long words take where operations take from 1 to 512 cycles, and each price of code is from 1 to 18.

module _ {State : Type 0} (price : Price State) (load : Load State) (store : Store State) where
  either_length : (test : Bool) (one other : Done State) → IsStepLength one.cycles → IsStepLength other.cycles
      → IsStepLength (if test then one else other).cycles
  either_length true one other here there = here
  either_length false one other here there = there

  pub execution_length : CodePriced price
      → ((op : Option ArmOp) (site : Site) (file : List ℕ) (bus : State)
      → IsStepLength (effect_of_word price load store op site file bus).cycles)
      → (word : ℕ) (file : List ℕ) (bus : State) → IsStepLength (execution price load store word file bus).cycles
  unfolding execution
  execution_length prices lengths word file bus =
      let site = site_of file in
      let code = prices bus site.address (code_width site) true in
      either_length (holds (condition_of (field word 28 4)) (flags (with_next file)))
      (effect_of_word price load store (operation word) site (with_next file) bus)
      (internal price load store bus (with_next file) (code_cost price bus site true))
      (lengths (operation word) site (with_next file) bus)
      (record { least = code.least; most = omega (arith, code.most) })
