use Rattle.std.proofs.Common.{ℕ, Bool, true, false, List, if◌then◌else◌}
use Rattle.gba_terms.specs.Bits.{field}
use Rattle.gba_arm_table.specs.Numbers.{condition_of}
use Rattle.gba_arm_table.specs.Table.{operation}
use Rattle.gba_bus.specs.Meanings.{Load, Price, Store}
use Rattle.gba_psr.specs.RegisterFile.{flags}
use Rattle.gba_exec_registers.specs.Access.{code_cost}
use Rattle.gba_exec_registers.specs.Conditions.{holds}
use Rattle.gba_exec_transfers.specs.Done.{Done}
use Rattle.gba_exec_transfers.specs.Effects.{effect_of_word, internal}
use Rattle.gba_exec_transfers.specs.Keeping.{OperationsKeep}
use Rattle.gba_arm_exec.specs.Execution.{execution, site_of, with_next}

-- What words keep of a bus, where operations keep it.

module _ {State : Type 0} (price : Price State) (load : Load State) (store : Store State) (P : State → Type 0) where
  either-kept : (choice : Bool) (one other : Done State) → P one.bus → P other.bus
      → P (if choice then one else other).bus
  either-kept true one other here there = here
  either-kept false one other here there = there

  pub kept-execution : OperationsKeep price load store P → (word : ℕ) (file : List ℕ) (bus : State)
      → P bus → P (execution price load store word file bus).bus
  unfolding execution
  kept-execution kept word file bus holds-now =
      let site = site_of file in
      either-kept (holds (condition_of (field word 28 4)) (flags (with_next file)))
      (effect_of_word price load store (operation word) site (with_next file) bus)
      (internal price load store bus (with_next file) (code_cost price bus site true))
      (kept (operation word) site (with_next file) bus holds-now)
      holds-now
