use Rattle.std.specs.Prelude.{ℕ, true, List, Option, Some, None, ◌+◌, ◌-◌, ◌*◌, ◌%◌, ◌^◌, if◌then◌else◌}
use Rattle.gba_arm_table.specs.declared.operation.Condition.{Condition}
use Rattle.gba_bus.specs.Meanings.{Load, Price, Store}
use Rattle.gba_exec_registers.specs.Access.{after_jump, code_cost, counter, jump_cost}
use Rattle.gba_exec_registers.specs.Conditions.{holds}
use Rattle.gba_exec_registers.specs.declared.site.Site.{Site}
use Rattle.gba_exec_transfers.specs.Done.{Done}
use Rattle.gba_exec_transfers.specs.Effects.{effect, effect_of_word, internal}
use Rattle.gba_exec_transfers.specs.Singles.{unit_load}
use Rattle.gba_exec_transfers.specs.declared.units.LoadUnit.TheVariants as unit
use Rattle.gba_psr.specs.RegisterFile.{flags, register, with_register}
use Rattle.gba_thumb_exec.specs.Meanings.{meaning_of}
use Rattle.gba_thumb_exec.specs.declared.meaning.Meaning.{Meaning}
use Rattle.gba_thumb_exec.specs.declared.meaning.Meaning.TheVariants.{Arm, NearLoad, NearAddress, BranchIf, Branch, LinkHigh, LinkLow}
use Rattle.gba_thumb_table.specs.declared.operation.ThumbOp.{ThumbOp}
use Rattle.gba_word.specs.Extension.{sign_extension}

-- What a Thumb operation leaves. Most have the effect of the ARM operation that they mean; those that no ARM operation
-- says have equations here (GBATEK, THUMB.6, THUMB.12, THUMB.16, THUMB.18 and THUMB.19).

-- so many words above the PC, the instruction's address plus 4 with the low two bits cleared
unfoldable pub near_address : ℕ → Site → ℕ
near_address words site = (counter site - counter site % 4 + 4 * words) % 2 ^ 32

-- a jump by so many halfwords from the instruction's address plus 4; `halfwords` is a signed number of 32 bits
unfoldable pub after_short_branch : ℕ → Site → List ℕ → List ℕ
after_short_branch halfwords site file = after_jump file ((counter site + 2 * halfwords) % 2 ^ 32)

-- the first half of BL: r14 takes the high part of the target, from the instruction's address plus 4
unfoldable pub after_link_high : ℕ → Site → List ℕ → List ℕ
after_link_high n11 site file = with_register file 14 ((counter site + 2 ^ 12 * sign_extension n11 11) % 2 ^ 32)

-- the second half of BL: a jump by so many halfwords from r14, which takes the next instruction's address with bit 0
-- set
unfoldable pub after_link_low : ℕ → List ℕ → List ℕ
after_link_low n11 file =
    let link = register file 15 - register file 15 % 2 + 1 in
    after_jump (with_register file 14 link) ((register file 14 + 2 * n11) % 2 ^ 32)

module _ {State : Type 0} (price : Price State) (load : Load State) (store : Store State) where
  -- LDR from near the PC. 1S of code, 1N of data and one cycle (ARM7TDMI Technical Reference Manual, load register).
  unfoldable pub after_near_load : ℕ → ℕ → Site → List ℕ → State → Done State
  after_near_load rd words site file bus =
      let got = unit_load price load store unit.Word site (near_address words site) bus in
      record {
        registers = with_register file rd got.value;
        bus = got.after;
        cycles = code_cost price bus site true + got.price + 1;
      }

  -- an address near the PC
  abbrev pub after_near_address : ℕ → ℕ → Site → List ℕ → State → Done State
  after_near_address rd words site file bus =
      internal price load store bus (with_register file rd (near_address words site)) (code_cost price bus site true)

  -- B of either kind
  abbrev pub short_branch : ℕ → Site → List ℕ → State → Done State
  short_branch halfwords site file bus =
      internal price load store bus (after_short_branch halfwords site file) (jump_cost (code_cost price bus site))

  -- B under a condition, which costs 1S where it doesn't hold
  abbrev pub conditional_branch : Condition → ℕ → Site → List ℕ → State → Done State
  conditional_branch condition halfwords site file bus =
      if holds condition (flags file) then short_branch halfwords site file bus
      else internal price load store bus file (code_cost price bus site true)

  -- what an operation leaves by its meaning
  abbrev pub effect_of_meaning : Meaning → Site → List ℕ → State → Done State
  effect_of_meaning (Arm operation) site file bus = effect price load store operation site file bus
  effect_of_meaning (NearLoad rd words) site file bus = after_near_load rd words site file bus
  effect_of_meaning (NearAddress rd words) site file bus = after_near_address rd words site file bus
  effect_of_meaning (BranchIf condition halfwords) site file bus = conditional_branch condition halfwords site file bus
  effect_of_meaning (Branch halfwords) site file bus = short_branch halfwords site file bus
  effect_of_meaning (LinkHigh n11) site file bus =
      internal price load store bus (after_link_high n11 site file) (code_cost price bus site true)
  effect_of_meaning (LinkLow n11) site file bus =
      internal price load store bus (after_link_low n11 file) (jump_cost (code_cost price bus site))

  -- What a Thumb operation leaves. In the file, r15 is the address of the next instruction.
  unfoldable pub thumb_effect : ThumbOp → Site → List ℕ → State → Done State
  thumb_effect operation site file bus = effect_of_meaning (meaning_of operation) site file bus

  -- what a halfword of this operation leaves; one without an operation takes the Undefined trap, as a word does
  unfoldable pub effect_of_half : Option ThumbOp → Site → List ℕ → State → Done State
  effect_of_half None site file bus = effect_of_word price load store None site file bus
  effect_of_half (Some operation) site file bus = thumb_effect operation site file bus
