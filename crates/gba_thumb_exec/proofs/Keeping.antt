use Rattle.std.proofs.Common.{ℕ, Bool, true, false, List, if◌then◌else◌}
use Rattle.std.specs.Prelude.{Option, Some, None}
use Rattle.gba_arm_table.specs.declared.operation.ArmOp.{ArmOp}
use Rattle.gba_arm_table.specs.declared.operation.Condition.{Condition}
use Rattle.gba_bus.specs.Meanings.{Load, Price, Store}
use Rattle.gba_bus.specs.Widths.{aligned}
use Rattle.gba_bus.specs.declared.width.Width.TheVariants.{Word}
use Rattle.gba_exec_registers.specs.Access.{code_cost}
use Rattle.gba_exec_registers.specs.Conditions.{holds}
use Rattle.gba_exec_registers.specs.declared.site.Site.{Site}
use Rattle.gba_exec_transfers.specs.Done.{Done}
use Rattle.gba_exec_transfers.specs.Effects.{effect, effect_of_word, internal}
use Rattle.gba_exec_transfers.specs.Keeping.{LoadsKeep, OperationsKeep}
use Rattle.gba_exec_transfers.specs.Singles.{unit_load}
use Rattle.gba_psr.specs.RegisterFile.{flags}
use Rattle.gba_thumb_exec.specs.Effects.{after_near_load, conditional_branch, effect_of_half, effect_of_meaning, near_address, short_branch, thumb_effect}
use Rattle.gba_thumb_exec.specs.Execution.{execution, site_of, with_next}
use Rattle.gba_thumb_exec.specs.Meanings.{meaning_of}
use Rattle.gba_thumb_exec.specs.declared.meaning.Meaning.{Meaning}
use Rattle.gba_thumb_exec.specs.declared.meaning.Meaning.TheVariants.{Arm, NearLoad, NearAddress, BranchIf, Branch, LinkHigh, LinkLow}
use Rattle.gba_thumb_table.specs.Table.{operation}
use Rattle.gba_thumb_table.specs.declared.operation.ThumbOp.{ThumbOp}

-- What halfwords keep of a bus, where ARM operations and reads keep it.

module _ {State : Type 0} (price : Price State) (load : Load State) (store : Store State) (P : State → Type 0)
    (loads_keep : LoadsKeep load P) (kept : OperationsKeep price load store P) where
  kept-arm : (one : ArmOp) (site : Site) (file : List ℕ) (bus : State) → P bus
      → P (effect price load store one site file bus).bus
  unfolding effect_of_word
  kept-arm one site file bus held = kept (Some one) site file bus held

  kept-near : (rd words : ℕ) (site : Site) (file : List ℕ) (bus : State) → P bus
      → P (after_near_load price load store rd words site file bus).bus
  unfolding after_near_load unit_load
  kept-near rd words site file bus held =
      loads_keep bus site.address (aligned Word (near_address words site)) Word false held

  either-kept : (choice : Bool) (one other : Done State) → P one.bus → P other.bus
      → P (if choice then one else other).bus
  either-kept true one other here there = here
  either-kept false one other here there = there

  kept-condition : (condition : Condition) (halfwords : ℕ) (site : Site) (file : List ℕ) (bus : State) → P bus
      → P (conditional_branch price load store condition halfwords site file bus).bus
  kept-condition condition halfwords site file bus held =
      either-kept (holds condition (flags file))
      (short_branch price load store halfwords site file bus)
      (internal price load store bus file (code_cost price bus site true))
      held held

  kept-meaning : (one : Meaning) (site : Site) (file : List ℕ) (bus : State) → P bus
      → P (effect_of_meaning price load store one site file bus).bus
  kept-meaning (Arm operation) site file bus held = kept-arm operation site file bus held
  kept-meaning (NearLoad rd words) site file bus held = kept-near rd words site file bus held
  kept-meaning (NearAddress rd words) site file bus held = held
  kept-meaning (BranchIf condition halfwords) site file bus held = kept-condition condition halfwords site file bus held
  kept-meaning (Branch halfwords) site file bus held = held
  kept-meaning (LinkHigh n11) site file bus held = held
  kept-meaning (LinkLow n11) site file bus held = held

  kept-half : (one : Option ThumbOp) (site : Site) (file : List ℕ) (bus : State) → P bus
      → P (effect_of_half price load store one site file bus).bus
  unfolding effect_of_half thumb_effect
  kept-half None site file bus held = kept None site file bus held
  kept-half (Some one) site file bus held = kept-meaning (meaning_of one) site file bus held

  pub kept-execution : (half : ℕ) (file : List ℕ) (bus : State) → P bus
      → P (execution price load store half file bus).bus
  unfolding execution
  kept-execution half file bus held = kept-half (operation half) (site_of file) (with_next file) bus held
