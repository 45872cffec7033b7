use Rattle.std.specs.Prelude.{ℕ, Bool, true, false, List, ◌+◌, ◌%◌, ◌^◌, if◌then◌else◌}
use Rattle.gba_terms.specs.Bits.{bit}
use Rattle.gba_word.specs.Shifts.{nonzero_shift}
use Rattle.gba_word.specs.declared.kinds.Shift.{Shift}
use Rattle.gba_arm_table.specs.declared.operation.ComputeOp.{ComputeOp}
use Rattle.gba_bus.specs.Meanings.{Load, Price, Store}
use Rattle.gba_bus.specs.declared.width.Width.{Width}
use Rattle.gba_psr.specs.RegisterFile.{flags, register, with_flags, with_register}
use Rattle.gba_exec_registers.specs.Access.{after_jump, code_cost, counter, jump_cost}
use Rattle.gba_exec_registers.specs.Branching.{after_undefined, undefined_cost}
use Rattle.gba_exec_registers.specs.Processing.{flags_after, outcome_of}
use Rattle.gba_exec_registers.specs.declared.outcome.Outcome.{Outcome}
use Rattle.gba_exec_registers.specs.declared.site.Site.{Site}
use Rattle.gba_exec_transfers.specs.Blocks.{after_load_block, after_store_block}
use Rattle.gba_exec_transfers.specs.Done.{Done}
use Rattle.gba_exec_transfers.specs.Effects.{effect, internal}
use Rattle.gba_exec_transfers.specs.Singles.{after_load, after_store, unit_load, unit_store}
use Rattle.gba_exec_transfers.specs.declared.units.LoadUnit.{LoadUnit}
use Rattle.gba_exec_quick.specs.Making.{General, Number, Plain, Shifted, SetNumber, SetPlain, SetShifted, CompareNumber, ComparePlain, CompareShifted, Loaded, Stored, LoadSingle, StoreSingle, LoadPlain, StorePlain, LoadBlock, StoreBlock, Branch, BranchLink, Other, Trap, general}
use Rattle.gba_exec_quick.specs.declared.quick.Quick.{Quick}

-- What a quick form leaves. The law `quick_forms_have_their_effect` says that it is the effect of the operation.

-- the value alone that an operation without S gives
abbrev pub value_of : ComputeOp → ℕ → ℕ → List ℕ → ℕ
value_of kind a b file = (outcome_of kind a b false (flags file)).value

-- the carry of a number that stands in the instruction: its bit 31 where it was turned
abbrev pub number_carry : ℕ → Bool → List ℕ → Bool
number_carry value turned file = if turned then bit value 31 else (flags file).carry

-- what an operation with S gives
abbrev pub outcome_in : ComputeOp → ℕ → ℕ → Bool → List ℕ → Outcome
outcome_in kind a b carry file = outcome_of kind a b carry (flags file)

-- the flags of an outcome, and its value in a register
abbrev pub with_flags_and : ℕ → Outcome → List ℕ → List ℕ
with_flags_and rd outcome file = with_register (with_flags file (flags_after outcome)) rd outcome.value

module _ {State : Type 0} (price : Price State) (load : Load State) (store : Store State) where
  -- an operation of a register and a number, and one of two registers, without S
  abbrev pub after_number : ComputeOp → ℕ → ℕ → ℕ → Site → List ℕ → State → Done State
  after_number kind rn rd value site file bus =
      internal price load store bus (with_register file rd (value_of kind (register file rn) value file))
      (code_cost price bus site true)

  abbrev pub after_plain : ComputeOp → ℕ → ℕ → ℕ → Site → List ℕ → State → Done State
  after_plain kind rn rd rm site file bus =
      internal price load store bus
      (with_register file rd (value_of kind (register file rn) (register file rm) file)) (code_cost price bus site true)

  -- an operation with S of a register and a number, of two registers, and of a register and a shifted register
  abbrev pub after_set_number : ComputeOp → ℕ → ℕ → ℕ → Bool → Site → List ℕ → State → Done State
  after_set_number kind rn rd value turned site file bus =
      internal price load store bus
      (with_flags_and rd (outcome_in kind (register file rn) value (number_carry value turned file) file) file)
      (code_cost price bus site true)

  abbrev pub after_set_plain : ComputeOp → ℕ → ℕ → ℕ → Site → List ℕ → State → Done State
  after_set_plain kind rn rd rm site file bus =
      internal price load store bus
      (with_flags_and rd (outcome_in kind (register file rn) (register file rm) (flags file).carry file) file)
      (code_cost price bus site true)

  abbrev pub after_set_shifted : ComputeOp → ℕ → ℕ → ℕ → Shift → ℕ → Site → List ℕ → State → Done State
  after_set_shifted kind rn rd rm shift amount site file bus =
      let second = nonzero_shift shift (register file rm) amount in
      internal price load store bus
      (with_flags_and rd (outcome_in kind (register file rn) second.0 second.1 file) file)
      (code_cost price bus site true)

  -- the flags of a register and a number, and of two registers
  abbrev pub after_compare_number : ComputeOp → ℕ → ℕ → Bool → Site → List ℕ → State → Done State
  after_compare_number kind rn value turned site file bus =
      internal price load store bus
      (with_flags file (flags_after (outcome_in kind (register file rn) value (number_carry value turned file) file)))
      (code_cost price bus site true)

  abbrev pub after_compare_plain : ComputeOp → ℕ → ℕ → Site → List ℕ → State → Done State
  after_compare_plain kind rn rm site file bus =
      internal price load store bus
      (with_flags file (flags_after (outcome_in kind (register file rn) (register file rm) (flags file).carry file)))
      (code_cost price bus site true)

  -- a load at a base plus an offset that keeps the base
  abbrev pub after_quick_load : LoadUnit → ℕ → ℕ → ℕ → Site → List ℕ → State → Done State
  after_quick_load kind rn rd offset site file bus =
      let got = unit_load price load store kind site ((register file rn + offset) % 2 ^ 32) bus in
      record {
        registers = with_register file rd got.value;
        bus = got.after;
        cycles = code_cost price bus site true + got.price + 1;
      }

  abbrev pub after_quick_store : Width → ℕ → ℕ → ℕ → Site → List ℕ → State → Done State
  after_quick_store kind rn rd offset site file bus =
      let stored = unit_store price load store kind ((register file rn + offset) % 2 ^ 32) (register file rd) bus in
      record { registers = file; bus = stored.after; cycles = code_cost price bus site false + stored.price }

  -- an operation of a register and a register shifted by a number, without S
  abbrev pub after_shifted : ComputeOp → ℕ → ℕ → ℕ → Shift → ℕ → Site → List ℕ → State → Done State
  after_shifted kind rn rd rm shift amount site file bus =
      internal price load store bus
      (with_register file rd
      (value_of kind (register file rn) (nonzero_shift shift (register file rm) amount).0 file))
      (code_cost price bus site true)

  -- the flags of a register and a shifted register
  abbrev pub after_compare_shifted : ComputeOp → ℕ → ℕ → Shift → ℕ → Site → List ℕ → State → Done State
  after_compare_shifted kind rn rm shift amount site file bus =
      let second = nonzero_shift shift (register file rm) amount in
      internal price load store bus
      (with_flags file (flags_after (outcome_in kind (register file rn) second.0 second.1 file)))
      (code_cost price bus site true)

  -- B and BL by so many bytes
  abbrev pub after_quick_branch : ℕ → Site → List ℕ → State → Done State
  after_quick_branch distance site file bus =
      internal price load store bus (after_jump file ((counter site + distance) % 2 ^ 32))
      (jump_cost (code_cost price bus site))

  abbrev pub effect_of_general : General → Site → List ℕ → State → Done State
  effect_of_general (Number kind rn rd value) site file bus = after_number kind rn rd value site file bus
  effect_of_general (Plain kind rn rd rm) site file bus = after_plain kind rn rd rm site file bus
  effect_of_general (Shifted kind rn rd rm shift amount) site file bus =
      after_shifted kind rn rd rm shift amount site file bus
  effect_of_general (SetNumber kind rn rd value turned) site file bus =
      after_set_number kind rn rd value turned site file bus
  effect_of_general (SetPlain kind rn rd rm) site file bus = after_set_plain kind rn rd rm site file bus
  effect_of_general (SetShifted kind rn rd rm shift amount) site file bus =
      after_set_shifted kind rn rd rm shift amount site file bus
  effect_of_general (CompareNumber kind rn value turned) site file bus =
      after_compare_number kind rn value turned site file bus
  effect_of_general (ComparePlain kind rn rm) site file bus = after_compare_plain kind rn rm site file bus
  effect_of_general (CompareShifted kind rn rm shift amount) site file bus =
      after_compare_shifted kind rn rm shift amount site file bus
  effect_of_general (Loaded kind rn rd offset) site file bus = after_quick_load kind rn rd offset site file bus
  effect_of_general (Stored kind rn rd offset) site file bus = after_quick_store kind rn rd offset site file bus
  effect_of_general (LoadSingle kind one) site file bus = after_load price load store kind one site file bus
  effect_of_general (StoreSingle kind one) site file bus = after_store price load store kind one site file bus
  effect_of_general (LoadPlain plain) site file bus = after_load_block price load store plain.block site file bus
  effect_of_general (StorePlain plain) site file bus = after_store_block price load store plain.block site file bus
  effect_of_general (LoadBlock block) site file bus = after_load_block price load store block site file bus
  effect_of_general (StoreBlock block) site file bus = after_store_block price load store block site file bus
  effect_of_general (Branch distance) site file bus = after_quick_branch distance site file bus
  effect_of_general (BranchLink distance) site file bus =
      after_quick_branch distance site (with_register file 14 (register file 15)) bus
  effect_of_general (Other whole) site file bus = effect price load store whole site file bus
  effect_of_general Trap site file bus =
      internal price load store bus (after_undefined file) (undefined_cost (code_cost price bus site))

  unfoldable pub effect_of_quick : Quick → Site → List ℕ → State → Done State
  effect_of_quick one site file bus = effect_of_general (general one) site file bus
