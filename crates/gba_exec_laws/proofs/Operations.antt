-- What each operation keeps of the register file.
use Rattle.std.proofs.Common.{◌≡◌, ◌≢◌, ⊎_elim, ℕ, zero, suc, ◌<◌, ◌≤◌, ◌+◌, ◌*◌, ◌/◌, ◌%◌, ◌^◌, ◌==◌, Bool, true, false, not, ◌&&◌, ◌||◌, List, [], ◌∷◌, refl, ap, sym, ◌∙◌, arith, if◌then◌else◌}
use Rattle.std.specs.Int.{cast_unsigned, w32}
use Rattle.std.specs.List.{filter, range_with_len}
use Rattle.std.specs.Prelude.{ℤ, IfSome, Option, Some, None}
use Rattle.std.proofs.lemmas.Bool.{cases_eq, false≢true}
use Rattle.std.proofs.lemmas.Bool.Decides.{nat_tests}
use Rattle.gba_terms.specs.Bits.{bit}
use Rattle.gba_arm_table.specs.Limits.{Fits}
use Rattle.gba_arm_table.specs.declared.operation.ArmOp.{ArmOp}
use Rattle.gba_arm_table.specs.declared.operation.ArmOp.TheVariants as op
use Rattle.gba_arm_table.specs.declared.operation.HalfKind.TheVariants.{StoreHalf, LoadHalf, LoadSignedByte, LoadSignedHalf}
use Rattle.gba_bus.specs.Meanings.{Load, LoadsFit, Price, Store}
use Rattle.gba_bus.specs.declared.width.Width.{Width}
use Rattle.gba_bus.specs.declared.width.Width.TheVariants as width
use Rattle.gba_bus.specs.declared.width.Width.TheVariants.{Word}
use Rattle.gba_psr.specs.Entry.{after_leave}
use Rattle.gba_psr.specs.RegisterFile.{mode, register, saved_status, status, with_flags, with_register, with_status}
use Rattle.gba_psr.specs.Status.{written_status}
use Rattle.gba_psr.specs.declared.exceptions.Exception.TheVariants.{Undefined, Software}
use Rattle.gba_psr.proofs.FileLaws.{status-with_status}
use Rattle.gba_exec_registers.specs.Access.{after_jump, code_cost, counter, operand_register, with_result}
use Rattle.gba_exec_registers.specs.Branching.{after_branch, after_exchange_to, with_thumb}
use Rattle.gba_exec_registers.specs.Multiplying.{long_product, product, product_flags, with_halves, with_long_product, with_product}
use Rattle.gba_exec_registers.specs.Processing.{compute_op_of, flags_after, outcome, with_outcome}
use Rattle.gba_exec_registers.specs.StatusMoves.{control_field, flag_field, saved_control_field, source_of, with_saved_status_fields, with_status_fields}
use Rattle.gba_exec_registers.specs.declared.outcome.Outcome.{Outcome}
use Rattle.gba_exec_registers.specs.declared.site.Site.{Site}
use Rattle.gba_exec_transfers.specs.Blocks.{after_counter_load, after_load_block, after_store_block, block_register, first_address, full_list, loads, registers_in, span, stores, with_block_register}
use Rattle.gba_exec_transfers.specs.Done.{Done}
use Rattle.gba_exec_transfers.specs.Effects.{effect, effect_of_word}
use Rattle.gba_exec_transfers.specs.Singles.{after_load, after_store, after_swap, half_distance, offset_address, offset_base, transfer_address, transfer_distance, unit_load, with_transfer_base, with_write_back}
use Rattle.gba_exec_transfers.specs.declared.units.BlockTransfer.{BlockTransfer}
use Rattle.gba_exec_transfers.specs.declared.units.LoadUnit.{LoadUnit}
use Rattle.gba_exec_transfers.specs.declared.units.LoadUnit.TheVariants as unit
use Rattle.gba_exec_transfers.specs.declared.units.SingleTransfer.{SingleTransfer}
use Rattle.gba_exec_laws.specs.Sound.{IsSoundFile, IsStoredFile}
use Rattle.gba_exec_laws.proofs.Files.{counter-with_status, sound-entry, sound-flags, sound-jump, sound-register, sound-result, sound-saved, sound-user, stored-leave, stored-register, stored-status, stored-user}
use Rattle.gba_exec_laws.proofs.Words.{either-word, long_product-wide, offset-word, operand-word, outcome-word, product-word, register-word, remainder-word, saved-word, status-word, unit_load-word}

pub sound-write-back : (write : Bool) (rn base : ℕ) (file : List ℕ) → IsSoundFile file → rn < 16 → base < 2 ^ 32
    → IsSoundFile (with_write_back write rn base file)
unfolding with_write_back
sound-write-back write rn base file is within word =
    by_test (write && not (rn == 15)) refl
  where
    by_test : (test : Bool) → (write && not (rn == 15)) ≡ test
        → IsSoundFile (if test then with_register file rn base else file)
    by_test true writes = sound-register file rn base is (grind (arith, nat_tests, within, writes)) word
    by_test false stays = is

sound-transfer-base : (one : SingleTransfer) (site : Site) (file : List ℕ) → IsSoundFile file → one.rn < 16
    → IsSoundFile (with_transfer_base one site file)
unfolding with_transfer_base
sound-transfer-base one site file is within =
    sound-write-back (one.write || not one.pre) one.rn (offset_base one site file) file is within
    (offset-word one.up (operand_register file (counter site) one.rn) one.distance)

sound-exchange : (target : ℕ) (file : List ℕ) → IsSoundFile file → target < 2 ^ 32
    → IsSoundFile (after_exchange_to target file)
unfolding after_exchange_to
sound-exchange target file is word =
    sound-jump (with_status file (with_thumb (status file) (bit target 0))) target
    (stored-status file (with_thumb (status file) (bit target 0)) is.stored) word

sound-branch : (link : Bool) (offset : ℤ) (site : Site) (file : List ℕ) → IsSoundFile file
    → IsSoundFile (after_branch link offset site file)
unfolding after_branch
sound-branch true offset site file is =
    sound-jump (with_register file 14 (register file 15)) ((counter site + 4 * cast_unsigned w32 offset) % 2 ^ 32)
    (stored-register file 14 (register file 15) is.stored (omega arith) (register-word file 15 is.stored))
    (remainder-word _)
sound-branch false offset site file is =
    sound-jump file ((counter site + 4 * cast_unsigned w32 offset) % 2 ^ 32) is.stored (remainder-word _)

sound-product : (set : Bool) (rd value : ℕ) (file : List ℕ) → IsSoundFile file → rd < 16 → value < 2 ^ 32
    → IsSoundFile (with_product set rd value file)
unfolding with_product
sound-product true rd value file is within word =
    let new = product_flags (bit value 31) (value == 0) file in
    sound-result (with_flags file new) rd value (sound-flags file new is) within word
sound-product false rd value file is within word = sound-result file rd value is within word

sound-halves : (hi lo value : ℕ) (file : List ℕ) → IsSoundFile file → hi < 16 → lo < 16 → value < 2 ^ 64
    → IsSoundFile (with_halves hi lo value file)
sound-halves hi lo value file is high low wide =
    sound-result (with_result file lo (value % 2 ^ 32)) hi (value / 2 ^ 32)
    (sound-result file lo (value % 2 ^ 32) is low (remainder-word value)) high (omega (arith, wide))

sound-long-product : (set : Bool) (hi lo value : ℕ) (file : List ℕ) → IsSoundFile file → hi < 16 → lo < 16
    → value < 2 ^ 64 → IsSoundFile (with_long_product set hi lo value file)
unfolding with_long_product
sound-long-product true hi lo value file is high low wide =
    let new = product_flags (bit value 63) (value == 0) file in
    sound-halves hi lo value (with_flags file new) (sound-flags file new is) high low wide
sound-long-product false hi lo value file is high low wide = sound-halves hi lo value file is high low wide

sound-outcome : (set : Bool) (rd : ℕ) (one : Outcome) (file : List ℕ) → IsSoundFile file → rd < 16 → one.value < 2 ^ 32
    → IsSoundFile (with_outcome set rd one file)
unfolding with_outcome
sound-outcome set rd one file is within word =
    by_jump (set && rd == 15) set
  where
    by_set : (test : Bool)
        → IsSoundFile (if test then with_result (with_flags file (flags_after one)) rd one.value
        else with_result file rd one.value)
    by_set true =
        sound-result (with_flags file (flags_after one)) rd one.value (sound-flags file (flags_after one) is) within
        word
    by_set false = sound-result file rd one.value is within word

    by_jump : (jumps flagged : Bool) → IsSoundFile (if jumps then after_jump (after_leave file) one.value
        else if flagged then with_result (with_flags file (flags_after one)) rd one.value
        else with_result file rd one.value)
    by_jump true flagged = sound-jump (after_leave file) one.value (stored-leave file is.stored) word
    by_jump false flagged = by_set flagged

-- T stays in each write of CPSR's fields
state-kept : (old fields : ℕ) (user : Bool) (value : ℕ)
    → bit (written_status old (flag_field fields old value * 2 ^ 28 + control_field fields user old value)) 5
    ≡ bit old 5
state-kept old fields user value = grind (arith, nat_tests)

sound-status-fields : (fields value : ℕ) (file : List ℕ) → IsSoundFile file
    → IsSoundFile (with_status_fields fields value file)
unfolding with_status_fields
sound-status-fields fields value file is =
    let number =
    flag_field fields (status file) value * 2 ^ 28 + control_field fields (mode file == 0x10) (status file) value in
    let count = is.stored.whole.count in
    record {
      stored = stored-status file number is.stored;
      aligned =
          rw (
            counter-with_status file number count,
            status-with_status file number count,
            state-kept (status file) fields (mode file == 0x10) value,
          ) is.aligned;
    }

sound-saved-fields : (fields value : ℕ) (file : List ℕ) → IsSoundFile file
    → IsSoundFile (with_saved_status_fields fields value file)
unfolding with_saved_status_fields
sound-saved-fields fields value file is =
    sound-saved file
    (flag_field fields (saved_status file) value * 2 ^ 28 + saved_control_field fields (saved_status file) value) is

-- registers below 16 that are in a block's list
abbrev Listed : ℕ → List ℕ → Type 0
Listed list [] = Unit {0}
Listed list (number ∷ rest) = ((number < 16) × (bit list number ≡ true)) × Listed list rest

listed : (list : ℕ) → Listed list (registers_in list 0 16)
unfolding registers_in
listed list = below 0 16 (omega arith)
  where
    both : (first : ℕ) (rest : List ℕ) → first < 16 → bit list first ≡ true → Listed list rest
        → Listed list (first ∷ rest)
    both first rest within set others = ((within, set), others)

    keep : (first : ℕ) (rest : List ℕ) (test : Bool) → bit list first ≡ test → first < 16
        → Listed list rest
        → Listed list (if test then first ∷ rest else rest)
    keep first rest true set within others = both first rest within set others
    keep first rest false clear within others = others

    below : (first count : ℕ) → first + count ≤ 16
        → Listed list (filter (λ number. bit list number) (range_with_len first count))
    below first zero fits = _
    below first (suc count) fits =
        keep first (filter (λ number. bit list number) (range_with_len (first + 1) count)) (bit list first) refl
        (omega (arith, fits)) (below (first + 1) count (omega (arith, fits)))

stored-block-register : (user : Bool) (file : List ℕ) (number value : ℕ) → IsStoredFile file → number < 16
    → value < 2 ^ 32 → IsStoredFile (with_block_register user file number value)
unfolding with_block_register
stored-block-register true file number value is within word = stored-user file number value is within word
stored-block-register false file number value is within word = stored-register file number value is within word

sound-block-register : (user : Bool) (file : List ℕ) (number value : ℕ) → IsSoundFile file → number < 15
    → value < 2 ^ 32 → IsSoundFile (with_block_register user file number value)
unfolding with_block_register
sound-block-register true file number value is within word = sound-user file number value is within word
sound-block-register false file number value is within word = sound-register file number value is within word

below-counter : (list number : ℕ) → bit list 15 ≡ false → number < 16 → bit list number ≡ true → number < 15
below-counter list number without within set =
    ⊎_elim
    (λ (counter_too : number ≡ 15). absurd (false≢true (sym without ∙ sym (ap (λ n. bit list n) counter_too) ∙ set)))
    (λ (other : number ≢ 15). omega (arith, within, other))
    (cases_eq number 15)

module _ {State : Type 0} (price : Price State) (load : Load State) (store : Store State) (fit : LoadsFit load) where
  loads-stored : (user : Bool) (site : Site) (list : ℕ) (numbers : List ℕ) (address : ℕ) (sequential : Bool)
      (done : Done State) → Listed list numbers → IsStoredFile done.registers
      → IsStoredFile (loads price load store user site numbers address sequential done).registers
  unfolding loads
  loads-stored user site list [] address sequential done all is = is
  loads-stored user site list (number ∷ rest) address sequential done all is =
      loads-stored user site list rest ((address + 4) % 2 ^ 32) true
      (record {
        registers =
            with_block_register user done.registers number (load done.bus site.address address Word sequential).value;
        bus = (load done.bus site.address address Word sequential).after;
        cycles = done.cycles + (load done.bus site.address address Word sequential).price;
      })
      all.1
      (stored-block-register user done.registers number (load done.bus site.address address Word sequential).value is
      all.0.0 (fit done.bus site.address address Word sequential))

  loads-sound : (user : Bool) (site : Site) (list : ℕ) (numbers : List ℕ) (address : ℕ) (sequential : Bool)
      (done : Done State) → bit list 15 ≡ false → Listed list numbers → IsSoundFile done.registers
      → IsSoundFile (loads price load store user site numbers address sequential done).registers
  unfolding loads
  loads-sound user site list [] address sequential done without all is = is
  loads-sound user site list (number ∷ rest) address sequential done without all is =
      loads-sound user site list rest ((address + 4) % 2 ^ 32) true
      (record {
        registers =
            with_block_register user done.registers number (load done.bus site.address address Word sequential).value;
        bus = (load done.bus site.address address Word sequential).after;
        cycles = done.cycles + (load done.bus site.address address Word sequential).price;
      })
      without all.1
      (sound-block-register user done.registers number (load done.bus site.address address Word sequential).value is
      (below-counter list number without all.0.0 all.0.1) (fit done.bus site.address address Word sequential))

  stores-sound : (user : Bool) (site : Site) (write : Bool) (rn base : ℕ) (numbers : List ℕ) (address : ℕ)
      (sequential : Bool) (done : Done State) → rn < 16 → base < 2 ^ 32 → IsSoundFile done.registers
      → IsSoundFile (stores price load store user site write rn base numbers address sequential done).registers
  unfolding stores
  stores-sound user site write rn base [] address sequential done within word is = is
  stores-sound user site write rn base (number ∷ rest) address sequential done within word is =
      let value = block_register user site done.registers number in
      stores-sound user site write rn base rest ((address + 4) % 2 ^ 32) true
      (record {
        registers = if sequential then done.registers else with_write_back write rn base done.registers;
        bus = (store done.bus address Word value sequential).after;
        cycles = done.cycles + (store done.bus address Word value sequential).price;
      })
      within word
      (first sequential)
    where
      first : (test : Bool)
          → IsSoundFile (if test then done.registers else with_write_back write rn base done.registers)
      first true = is
      first false = sound-write-back write rn base done.registers is within word

  sound-load : (kind : LoadUnit) (one : SingleTransfer) (site : Site) (file : List ℕ) (bus : State) → IsSoundFile file
      → one.rn < 16 → one.rd < 16 → IsSoundFile (after_load price load store kind one site file bus).registers
  unfolding after_load
  sound-load kind one site file bus is base within =
      sound-result (with_transfer_base one site file) one.rd
      (unit_load price load store kind site (transfer_address one site file) bus).value
      (sound-transfer-base one site file is base) within
      (unit_load-word price load store fit kind site (transfer_address one site file) bus)

  sound-store : (kind : Width) (one : SingleTransfer) (site : Site) (file : List ℕ) (bus : State) → IsSoundFile file
      → one.rn < 16 → IsSoundFile (after_store price load store kind one site file bus).registers
  unfolding after_store
  sound-store kind one site file bus is base = sound-transfer-base one site file is base

  sound-swap : (byte : Bool) (rn rd rm : ℕ) (site : Site) (file : List ℕ) (bus : State) → IsSoundFile file → rd < 16
      → IsSoundFile (after_swap price load store byte rn rd rm site file bus).registers
  unfolding after_swap
  sound-swap byte rn rd rm site file bus is within =
      let kind = if byte then unit.Byte else unit.Word in
      let address = operand_register file (counter site) rn in
      sound-result file rd (unit_load price load store kind site address bus).value is within
      (unit_load-word price load store fit kind site address bus)

  sound-load-block : (block : BlockTransfer) (site : Site) (file : List ℕ) (bus : State) → IsSoundFile file
      → block.rn < 16 → IsSoundFile (after_load_block price load store block site file bus).registers
  unfolding after_load_block after_counter_load
  sound-load-block block site file bus is within =
      by_counter (bit (full_list block.list) 15) refl
    where
      begun : Done State
      begun = record {
        registers = with_write_back (block.write && not (bit block.list block.rn)) block.rn
            (offset_address block.up (operand_register file (counter site) block.rn) (span block.list)) file;
        bus = bus;
        cycles = code_cost price bus site true + 1;
      }

      sound-begun : IsSoundFile begun.registers
      sound-begun =
          sound-write-back (block.write && not (bit block.list block.rn)) block.rn
          (offset_address block.up (operand_register file (counter site) block.rn) (span block.list)) file is within
          (offset-word block.up (operand_register file (counter site) block.rn) (span block.list))

      loaded : Bool → Done State
      loaded user =
          loads price load store user site (registers_in (full_list block.list) 0 16)
          (first_address block (operand_register file (counter site) block.rn)) false begun

      left : (user : Bool) (one : List ℕ) → IsStoredFile one → IsStoredFile (if user then after_leave one else one)
      left true one stored = stored-leave one stored
      left false one stored = stored

      by_counter : (test : Bool) → bit (full_list block.list) 15 ≡ test
          → IsSoundFile
          (if test then after_jump (if block.user then after_leave (loaded (block.user && not test)).registers
          else (loaded (block.user && not test)).registers) (register (loaded (block.user && not test)).registers 15)
          else (loaded (block.user && not test)).registers)
      by_counter true with-counter =
          let after = (loaded (block.user && not true)).registers in
          let stored =
          loads-stored (block.user && not true) site (full_list block.list) (registers_in (full_list block.list) 0 16)
          (first_address block (operand_register file (counter site) block.rn)) false begun
          (listed (full_list block.list)) sound-begun.stored in
          sound-jump (if block.user then after_leave after else after) (register after 15)
          (left block.user after stored) (register-word after 15 stored)
      by_counter false without =
          loads-sound (block.user && not false) site (full_list block.list) (registers_in (full_list block.list) 0 16)
          (first_address block (operand_register file (counter site) block.rn)) false begun without
          (listed (full_list block.list)) sound-begun

  sound-store-block : (block : BlockTransfer) (site : Site) (file : List ℕ) (bus : State) → IsSoundFile file
      → block.rn < 16 → IsSoundFile (after_store_block price load store block site file bus).registers
  unfolding after_store_block
  sound-store-block block site file bus is within =
      let base = operand_register file (counter site) block.rn in
      stores-sound block.user site block.write block.rn (offset_address block.up base (span block.list))
      (registers_in (full_list block.list) 0 16) (first_address block base) false
      (record { registers = file; bus = bus; cycles = code_cost price bus site false }) within
      (offset-word block.up base (span block.list)) is

  pub sound-effect : (one : ArmOp) (site : Site) (file : List ℕ) (bus : State) → Fits one → IsSoundFile file
      → IsSoundFile (effect price load store one site file bus).registers
  unfolding effect
  sound-effect (op.Exchange cond rm) site file bus fits is =
      sound-exchange (operand_register file (counter site) rm) file is
      (operand-word file (counter site) rm is.stored (remainder-word _))
  sound-effect (op.Multiply cond accumulate set rd rn rs rm) site file bus fits is =
      sound-product set rd (product accumulate rn rs rm site file) file is fits.registers.0
      (product-word accumulate rn rs rm site file)
  sound-effect (op.MultiplyLong cond signed accumulate set hi lo rs rm) site file bus fits is =
      sound-long-product set hi lo (long_product signed accumulate hi lo rs rm site file) file is fits.registers.0
      fits.registers.1.0 (long_product-wide signed accumulate hi lo rs rm site file)
  sound-effect (op.Swap cond byte rn rd rm) site file bus fits is =
      sound-swap byte rn rd rm site file bus is fits.registers.1.0
  sound-effect (op.Half cond StoreHalf pre up write rn rd offset) site file bus fits is =
      sound-store width.Half
      (record { pre = pre; up = up; write = write; rn = rn; rd = rd; distance = half_distance offset site file })
      site file bus is fits.registers.0
  sound-effect (op.Half cond LoadHalf pre up write rn rd offset) site file bus fits is =
      sound-load unit.Half
      (record { pre = pre; up = up; write = write; rn = rn; rd = rd; distance = half_distance offset site file })
      site file bus is fits.registers.0 fits.registers.1.0
  sound-effect (op.Half cond LoadSignedByte pre up write rn rd offset) site file bus fits is =
      sound-load unit.SignedByte
      (record { pre = pre; up = up; write = write; rn = rn; rd = rd; distance = half_distance offset site file })
      site file bus is fits.registers.0 fits.registers.1.0
  sound-effect (op.Half cond LoadSignedHalf pre up write rn rd offset) site file bus fits is =
      sound-load unit.SignedHalf
      (record { pre = pre; up = up; write = write; rn = rn; rd = rd; distance = half_distance offset site file })
      site file bus is fits.registers.0 fits.registers.1.0
  sound-effect (op.ReadStatus cond saved rd) site file bus fits is =
      sound-result file rd (if saved then saved_status file else status file) is fits.registers.0
      (either-word saved (saved_status file) (status file) (saved-word file is.stored) (status-word file is.stored))
  sound-effect (op.WriteStatus cond true fields source) site file bus fits is =
      sound-saved-fields fields (source_of source site file) file is
  sound-effect (op.WriteStatus cond false fields source) site file bus fits is =
      sound-status-fields fields (source_of source site file) file is
  sound-effect (op.Compute cond kind set rn rd one) site file bus fits is =
      sound-outcome set rd (outcome kind rn one site file) file is fits.registers.1.0
      (outcome-word kind rn one site file fits.immediates is.stored)
  sound-effect (op.Compare cond kind rn one) site file bus fits is =
      sound-flags file (flags_after (outcome (compute_op_of kind) rn one site file)) is
  sound-effect (op.Transfer cond true byte pre up write rn rd offset) site file bus fits is =
      sound-load (if byte then unit.Byte else unit.Word)
      (record { pre = pre; up = up; write = write; rn = rn; rd = rd; distance = transfer_distance offset site file })
      site file bus is fits.registers.0 fits.registers.1.0
  sound-effect (op.Transfer cond false byte pre up write rn rd offset) site file bus fits is =
      sound-store (if byte then width.Byte else width.Word)
      (record { pre = pre; up = up; write = write; rn = rn; rd = rd; distance = transfer_distance offset site file })
      site file bus is fits.registers.0
  sound-effect (op.Block cond true pre up user write rn list) site file bus fits is =
      sound-load-block (record { pre = pre; up = up; user = user; write = write; rn = rn; list = list }) site
      file bus is fits.registers.0
  sound-effect (op.Block cond false pre up user write rn list) site file bus fits is =
      sound-store-block (record { pre = pre; up = up; user = user; write = write; rn = rn; list = list }) site
      file bus is fits.registers.0
  sound-effect (op.Branch cond link offset) site file bus fits is = sound-branch link offset site file is
  sound-effect (op.Interrupt cond comment) site file bus fits is =
      sound-entry Software (register file 15) file is.stored (register-word file 15 is.stored)

  pub sound-word : (one : Option ArmOp) (site : Site) (file : List ℕ) (bus : State) → IfSome one Fits → IsSoundFile file
      → IsSoundFile (effect_of_word price load store one site file bus).registers
  unfolding effect_of_word
  sound-word None site file bus fits is =
      sound-entry Undefined (register file 15) file is.stored (register-word file 15 is.stored)
  sound-word (Some one) site file bus fits is = sound-effect one site file bus fits is
