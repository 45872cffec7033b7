use Rattle.std.proofs.Common.{ℕ, Bool, true, false, List, if◌then◌else◌, arith}
use Rattle.std.specs.Prelude.{Option, Some, None}
use Rattle.gba_arm_table.specs.declared.operation.ArmOp.{ArmOp}
use Rattle.gba_arm_table.specs.declared.operation.Condition.{Condition}
use Rattle.gba_bus.specs.Meanings.{CodePriced, Load, LoadsPriced, Price, Store}
use Rattle.gba_bus.specs.Widths.{aligned}
use Rattle.gba_bus.specs.declared.width.Width.TheVariants.{Word}
use Rattle.gba_exec_registers.specs.Access.{code_cost, code_width, jump_cost}
use Rattle.gba_exec_registers.specs.Conditions.{holds}
use Rattle.gba_exec_registers.specs.declared.site.Site.{Site}
use Rattle.gba_exec_transfers.specs.Done.{Done, IsStepLength}
use Rattle.gba_exec_transfers.specs.Effects.{effect, effect_of_word, internal}
use Rattle.gba_exec_transfers.specs.Singles.{unit_load}
use Rattle.gba_psr.specs.RegisterFile.{flags}
use Rattle.gba_thumb_exec.specs.Effects.{after_near_load, conditional_branch, effect_of_half, effect_of_meaning, near_address, short_branch, thumb_effect}
use Rattle.gba_thumb_exec.specs.Execution.{execution, site_of, with_next}
use Rattle.gba_thumb_exec.specs.Meanings.{meaning_of}
use Rattle.gba_thumb_exec.specs.declared.meaning.Meaning.{Meaning}
use Rattle.gba_thumb_exec.specs.declared.meaning.Meaning.TheVariants.{Arm, NearLoad, NearAddress, BranchIf, Branch, LinkHigh, LinkLow}
use Rattle.gba_thumb_table.specs.Table.{operation}
use Rattle.gba_thumb_table.specs.declared.operation.ThumbOp.{ThumbOp}

-- How long halfwords take where ARM operations take from 1 to 512 cycles, and each price is from 1 to 18.

module _ {State : Type 0} (price : Price State) (load : Load State) (store : Store State)
    (code_prices : CodePriced price) (load_prices : LoadsPriced load)
    (lengths : (one : Option ArmOp) (site : Site) (file : List ℕ) (bus : State)
    → IsStepLength (effect_of_word price load store one site file bus).cycles) where
  arm_length : (one : ArmOp) (site : Site) (file : List ℕ) (bus : State)
      → IsStepLength (effect price load store one site file bus).cycles
  unfolding effect_of_word
  arm_length one site file bus = lengths (Some one) site file bus

  code_length : (site : Site) (bus : State) → IsStepLength (code_cost price bus site true)
  code_length site bus =
      let code = code_prices bus site.address (code_width site) true in
      record { least = code.least; most = omega (arith, code.most) }

  jump_length : (site : Site) (bus : State) → IsStepLength (jump_cost (code_cost price bus site))
  jump_length site bus =
      let first = code_prices bus site.address (code_width site) true in
      let second = code_prices bus site.address (code_width site) false in
      record { least = omega (arith, first.least); most = omega (arith, first.most, second.most) }

  near_length : (rd words : ℕ) (site : Site) (file : List ℕ) (bus : State)
      → IsStepLength (after_near_load price load store rd words site file bus).cycles
  unfolding after_near_load unit_load
  near_length rd words site file bus =
      let code = code_prices bus site.address (code_width site) true in
      let read = load_prices bus site.address (aligned Word (near_address words site)) Word false in
      record { least = omega (arith, code.least); most = omega (arith, code.most, read.most) }

  either_length : (test : Bool) (one other : Done State) → IsStepLength one.cycles → IsStepLength other.cycles
      → IsStepLength (if test then one else other).cycles
  either_length true one other here there = here
  either_length false one other here there = there

  condition_length : (condition : Condition) (halfwords : ℕ) (site : Site) (file : List ℕ) (bus : State)
      → IsStepLength (conditional_branch price load store condition halfwords site file bus).cycles
  condition_length condition halfwords site file bus =
      either_length (holds condition (flags file))
      (short_branch price load store halfwords site file bus)
      (internal price load store bus file (code_cost price bus site true))
      (jump_length site bus) (code_length site bus)

  meaning_length : (one : Meaning) (site : Site) (file : List ℕ) (bus : State)
      → IsStepLength (effect_of_meaning price load store one site file bus).cycles
  meaning_length (Arm operation) site file bus = arm_length operation site file bus
  meaning_length (NearLoad rd words) site file bus = near_length rd words site file bus
  meaning_length (NearAddress rd words) site file bus = code_length site bus
  meaning_length (BranchIf condition halfwords) site file bus = condition_length condition halfwords site file bus
  meaning_length (Branch halfwords) site file bus = jump_length site bus
  meaning_length (LinkHigh n11) site file bus = code_length site bus
  meaning_length (LinkLow n11) site file bus = jump_length site bus

  half_length : (one : Option ThumbOp) (site : Site) (file : List ℕ) (bus : State)
      → IsStepLength (effect_of_half price load store one site file bus).cycles
  unfolding effect_of_half thumb_effect
  half_length None site file bus = lengths None site file bus
  half_length (Some one) site file bus = meaning_length (meaning_of one) site file bus

  pub execution_length : (half : ℕ) (file : List ℕ) (bus : State)
      → IsStepLength (execution price load store half file bus).cycles
  unfolding execution
  execution_length half file bus = half_length (operation half) (site_of file) (with_next file) bus
