-- What words and halfwords keep of the register file.
use Rattle.std.proofs.Common.{◌≡◌, ℕ, ◌<◌, ◌+◌, ◌-◌, ◌*◌, ◌%◌, ◌^◌, Bool, true, false, List, arith, if◌then◌else◌}
use Rattle.std.specs.Prelude.{IfSome, Option, Some, None}
use Rattle.std.proofs.lemmas.Bool.{false≢true}
use Rattle.gba_terms.specs.Bits.{bit, field}
use Rattle.gba_arm_exec.specs.Execution as word
use Rattle.gba_arm_table.specs.Limits as arm
use Rattle.gba_arm_table.specs.Numbers.{condition_of}
use Rattle.gba_arm_table.specs.Table as arm_table
use Rattle.gba_bus.specs.Meanings.{Load, LoadsFit, Price, Store}
use Rattle.gba_exec_registers.specs.Access.{code_cost, counter}
use Rattle.gba_exec_registers.specs.Conditions.{holds}
use Rattle.gba_exec_registers.specs.declared.site.Site.{Site}
use Rattle.gba_exec_transfers.specs.Done.{Done}
use Rattle.gba_exec_transfers.specs.Effects.{effect_of_word, internal}
use Rattle.gba_exec_transfers.specs.Singles.{unit_load}
use Rattle.gba_exec_transfers.specs.declared.units.LoadUnit.TheVariants as unit
use Rattle.gba_psr.specs.RegisterFile.{flags, register, status, with_register}
use Rattle.gba_psr.specs.Status.{unit_bytes}
use Rattle.gba_psr.proofs.FileLaws.{register-with_register_same, status-with_register}
use Rattle.gba_thumb_exec.proofs.FormEffects.{meaning-fits}
use Rattle.gba_thumb_exec.specs.Effects.{after_link_high, after_link_low, after_near_load, after_short_branch, effect_of_half, effect_of_meaning, near_address, short_branch, thumb_effect}
use Rattle.gba_thumb_exec.specs.Execution as half
use Rattle.gba_thumb_exec.specs.Meanings.{MeaningFits, meaning_of}
use Rattle.gba_thumb_exec.specs.declared.meaning.Meaning.{Meaning}
use Rattle.gba_thumb_exec.specs.declared.meaning.Meaning.TheVariants.{Arm, NearLoad, NearAddress, BranchIf, Branch, LinkHigh, LinkLow}
use Rattle.gba_thumb_table.specs.Limits as thumb
use Rattle.gba_thumb_table.specs.Table as thumb_table
use Rattle.gba_thumb_table.specs.declared.operation.ThumbOp.{ThumbOp}
use Rattle.gba_word.specs.Extension.{sign_extension}
use Rattle.gba_exec_laws.specs.Sound.{IsSoundFile}
use Rattle.gba_exec_laws.proofs.Files.{sound-jump, sound-register, stored-register}
use Rattle.gba_exec_laws.proofs.Operations.{sound-effect, sound-word}
use Rattle.gba_exec_laws.proofs.Words.{register-word, remainder-word, unit_load-word}

-- the next instruction's address
next-word : (at : ℕ) (thumb : Bool) → at % (if thumb then 2 else 4) ≡ 0
    → (at + 4) % 2 ^ 32 % (if thumb then 2 else 4) ≡ 0
next-word at false aligned = omega (arith, aligned)
next-word at true aligned = omega (arith, aligned)

next-half : (at : ℕ) (thumb : Bool) → thumb ≡ true → at % (if thumb then 2 else 4) ≡ 0
    → (at + 2) % 2 ^ 32 % (if thumb then 2 else 4) ≡ 0
next-half at true state aligned = omega (arith, aligned)
next-half at false state aligned = absurd (false≢true state)

sound-next : (file : List ℕ) (next : ℕ) → IsSoundFile file → next < 2 ^ 32 → next % unit_bytes (status file) ≡ 0
    → IsSoundFile (with_register file 15 next)
sound-next file next is word aligned = record {
  stored = stored-register file 15 next is.stored (omega arith) word;
  aligned =
      rw (
        register-with_register_same file 15 next is.stored.whole.count (omega arith),
        status-with_register file 15 next (omega arith),
      )
      aligned;
}

either-sound : {State : Type 0} (choice : Bool) (one other : Done State) → IsSoundFile one.registers
    → IsSoundFile other.registers → IsSoundFile (if choice then one else other).registers
either-sound true one other here there = here
either-sound false one other here there = there

near-word : (words : ℕ) (site : Site) → near_address words site < 2 ^ 32
unfolding near_address
near-word words site = remainder-word _

-- the second half of BL leaves the next instruction's address with bit 0 set
link-word : (next : ℕ) → next < 2 ^ 32 → next - next % 2 + 1 < 2 ^ 32
link-word next word = omega (arith, word)

module _ {State : Type 0} (price : Price State) (load : Load State) (store : Store State) (fit : LoadsFit load) where
  pub sound-word-execution : ((number : ℕ) → IfSome (arm_table.operation number) arm.Fits)
      → (number : ℕ) (file : List ℕ) (bus : State) → IsSoundFile file
      → IsSoundFile (word.execution price load store number file bus).registers
  unfolding word.execution
  sound-word-execution fits number file bus is =
      let next = word.with_next file in
      let site = word.site_of file in
      let behind =
      sound-next file ((register file 15 + 4) % 2 ^ 32) is (remainder-word _)
      (next-word (register file 15) (bit (status file) 5) is.aligned) in
      either-sound (holds (condition_of (field number 28 4)) (flags next))
      (effect_of_word price load store (arm_table.operation number) site next bus)
      (internal price load store bus next (code_cost price bus site true))
      (sound-word price load store fit (arm_table.operation number) site next bus (fits number) behind)
      behind

  sound-short-branch : (halfwords : ℕ) (site : Site) (file : List ℕ) → IsSoundFile file
      → IsSoundFile (after_short_branch halfwords site file)
  unfolding after_short_branch
  sound-short-branch halfwords site file is =
      sound-jump file ((counter site + 2 * halfwords) % 2 ^ 32) is.stored (remainder-word _)

  sound-link-high : (n11 : ℕ) (site : Site) (file : List ℕ) → IsSoundFile file
      → IsSoundFile (after_link_high n11 site file)
  unfolding after_link_high
  sound-link-high n11 site file is =
      sound-register file 14 ((counter site + 2 ^ 12 * sign_extension n11 11) % 2 ^ 32) is (omega arith)
      (remainder-word _)

  sound-link-low : (n11 : ℕ) (file : List ℕ) → IsSoundFile file → IsSoundFile (after_link_low n11 file)
  unfolding after_link_low
  sound-link-low n11 file is =
      let link = register file 15 - register file 15 % 2 + 1 in
      sound-jump (with_register file 14 link) ((register file 14 + 2 * n11) % 2 ^ 32)
      (stored-register file 14 link is.stored (omega arith)
      (link-word (register file 15) (register-word file 15 is.stored))) (remainder-word _)

  sound-near-load : (rd words : ℕ) (site : Site) (file : List ℕ) (bus : State) → IsSoundFile file → rd < 8
      → IsSoundFile (after_near_load price load store rd words site file bus).registers
  unfolding after_near_load
  sound-near-load rd words site file bus is within =
      sound-register file rd (unit_load price load store unit.Word site (near_address words site) bus).value is
      (omega (arith, within)) (unit_load-word price load store fit unit.Word site (near_address words site) bus)

  sound-meaning : (one : Meaning) (site : Site) (file : List ℕ) (bus : State) → MeaningFits one → IsSoundFile file
      → IsSoundFile (effect_of_meaning price load store one site file bus).registers
  sound-meaning (Arm operation) site file bus fits is =
      sound-effect price load store fit operation site file bus fits is
  sound-meaning (NearLoad rd words) site file bus fits is = sound-near-load rd words site file bus is fits.0
  sound-meaning (NearAddress rd words) site file bus fits is =
      sound-register file rd (near_address words site) is (omega (arith, fits.0)) (near-word words site)
  sound-meaning (BranchIf condition halfwords) site file bus fits is =
      either-sound (holds condition (flags file)) (short_branch price load store halfwords site file bus)
      (internal price load store bus file (code_cost price bus site true))
      (sound-short-branch halfwords site file is) is
  sound-meaning (Branch halfwords) site file bus fits is = sound-short-branch halfwords site file is
  sound-meaning (LinkHigh n11) site file bus fits is = sound-link-high n11 site file is
  sound-meaning (LinkLow n11) site file bus fits is = sound-link-low n11 file is

  sound-half : (one : Option ThumbOp) (site : Site) (file : List ℕ) (bus : State) → IfSome one thumb.Fits
      → IsSoundFile file → IsSoundFile (effect_of_half price load store one site file bus).registers
  unfolding effect_of_half thumb_effect
  sound-half None site file bus fits is = sound-word price load store fit None site file bus _ is
  sound-half (Some one) site file bus fits is = sound-meaning (meaning_of one) site file bus (meaning-fits one fits) is

  pub sound-half-execution : ((number : ℕ) → IfSome (thumb_table.operation number) thumb.Fits)
      → (number : ℕ) (file : List ℕ) (bus : State) → IsSoundFile file → bit (status file) 5 ≡ true
      → IsSoundFile (half.execution price load store number file bus).registers
  unfolding half.execution
  sound-half-execution fits number file bus is state =
      sound-half (thumb_table.operation number) (half.site_of file) (half.with_next file) bus (fits number)
      (sound-next file ((register file 15 + 2) % 2 ^ 32) is (remainder-word _)
      (next-half (register file 15) (bit (status file) 5) state is.aligned))
