-- LDM and STM of a plain block are their accesses alone, and these go down the list by its lowest bit.
use Rattle.std.proofs.Common.{◌≡◌, ℕ, Bool, true, false, not, List, [], ◌∷◌, ◌+◌, ◌-◌, ◌/◌, ◌%◌, ◌^◌, ◌<◌, ◌==◌, ◌&&◌, refl, ap, sym, ◌∙◌, arith, add-zero, if◌then◌else◌}
use Rattle.std.proofs.lemmas.Bool.Decides.{nat_tests}
use Rattle.std.specs.Int.{w32, trailing_zeros}
use lib.Bits.{bit_and}
use Rattle.gba_terms.specs.Bits.{bit}
use Rattle.gba_bus.specs.Meanings.{Load, Price, Store}
use Rattle.gba_bus.specs.Widths.{aligned}
use Rattle.gba_bus.specs.declared.width.Width.TheVariants.{Word}
use Rattle.gba_psr.specs.RegisterFile.{register, with_register}
use Rattle.gba_exec_registers.specs.Access.{code_cost, counter, operand_register}
use Rattle.gba_exec_registers.specs.declared.site.Site.{Site}
use Rattle.gba_exec_transfers.specs.Blocks.{after_counter_load, after_load_block, after_store_block, block_register, loads, lowest, registers_in, span, stores, with_block_register}
use Rattle.gba_exec_transfers.specs.Done.{Done}
use Rattle.gba_exec_transfers.specs.Plain.{IsPlain, plain_of}
use Rattle.gba_exec_transfers.specs.Singles.{offset_address, with_write_back}
use Rattle.gba_exec_transfers.specs.declared.units.BlockTransfer.{BlockTransfer}
use Rattle.gba_exec_transfers.specs.declared.units.PlainBlock.{PlainBlock}
use Rattle.gba_exec_transfers.proofs.Runs.{done_of, stores_first}
use Rattle.gba_exec_transfers.proofs.Scanning.{first_below}

-- where a block's accesses are from a base is as far from it as from a base of 0
first-moved : (pre up : Bool) (base span : ℕ) → base < 2 ^ 32
    → lowest pre up base span ≡ (base + lowest pre up 0 span) % 2 ^ 32
unfolding lowest
first-moved true true base span small = omega arith
first-moved false true base span small = omega arith
first-moved true false base span small = omega arith
first-moved false false base span small = omega arith

base-moved : (up : Bool) (base span : ℕ) → offset_address up base span ≡ (base + offset_address up 0 span) % 2 ^ 32
base-moved true base span = omega arith
base-moved false base span = omega arith

operand-present : (file : List ℕ) (at number : ℕ) → number < 15 → operand_register file at number ≡ register file number
unfolding operand_register
operand-present file at number below =
    let other : (number == 15) ≡ false = grind (arith, nat_tests) in
    rw other refl

counter-apart : (list : ℕ) → list < 2 ^ 15 → bit list 15 ≡ false
counter-apart list small =
    let none : list / 2 ^ 15 ≡ 0 = omega arith in
    ap (λ n. n % 2 == 1) none

listed : (list : ℕ) → 0 < list → (list == 0) ≡ false
listed list some = grind (arith, nat_tests)

stored-present : (site : Site) (file : List ℕ) (number : ℕ) → number < 15
    → block_register false site file number ≡ register file number
unfolding block_register
stored-present site file number below =
    let other : (number == 15) ≡ false = grind (arith, nat_tests) in
    rw other refl

module _ {State : Type 0} (price : Price State) (load : Load State) (store : Store State) where
  none-added : (done : Done State) → done_of done.registers done.bus (done.cycles + 0) ≡ done
  none-added done = ap (done_of done.registers done.bus) (add-zero done.cycles)

  loads-alone : (block : BlockTransfer) (site : Site) (file : List ℕ) (bus : State) (base : ℕ)
      → (block.list == 0) ≡ false → bit block.list 15 ≡ false → block.user ≡ false
      → operand_register file (counter site) block.rn ≡ base
      → after_load_block price load store block site file bus
      ≡ loads price load store false site (registers_in block.list 0 16)
      (aligned Word (lowest block.pre block.up base (span block.list))) false
      (done_of
      (with_write_back (block.write && not (bit block.list block.rn)) block.rn
      (offset_address block.up base (span block.list)) file) bus (code_cost price bus site true + 1))
  unfolding after_load_block after_counter_load
  loads-alone block site file bus base some apart present is = rw (some, apart, present, is) (none-added _)

  stores-alone : (block : BlockTransfer) (site : Site) (file : List ℕ) (bus : State) (base : ℕ)
      → (block.list == 0) ≡ false → block.user ≡ false
      → operand_register file (counter site) block.rn ≡ base
      → after_store_block price load store block site file bus
      ≡ stores price load store false site block.write block.rn (offset_address block.up base (span block.list))
      (registers_in block.list 0 16) (aligned Word (lowest block.pre block.up base (span block.list))) false
      (done_of file bus (code_cost price bus site false))
  unfolding after_store_block
  stores-alone block site file bus base some present is = rw (some, present, is) refl

  plain-loads : (plain : PlainBlock) (site : Site) (file : List ℕ) (bus : State) → IsPlain plain
      → register file plain.block.rn < 2 ^ 32
      → after_load_block price load store plain.block site file bus
      ≡ loads price load store false site (registers_in plain.block.list 0 16)
      (aligned Word ((register file plain.block.rn + plain.first) % 2 ^ 32)) false
      (done_of
      (with_write_back plain.load_writes plain.block.rn ((register file plain.block.rn + plain.moved) % 2 ^ 32) file)
      bus (code_cost price bus site true + 1))
  plain-loads plain site file bus is small =
      let block = plain.block in
      let base = register file block.rn in
      let size = span block.list in
      let made : Bool → ℕ → ℕ → Done State = λ writes first moved.
      loads price load store false site (registers_in block.list 0 16) (aligned Word first) false
      (done_of (with_write_back writes block.rn moved file) bus (code_cost price bus site true + 1)) in
      let writes : plain.load_writes ≡ (block.write && not (bit block.list block.rn)) =
      ap (λ p. p.load_writes) is.whole in
      let first : (base + plain.first) % 2 ^ 32 ≡ lowest block.pre block.up base size =
      ap (λ p. (base + p.first) % 2 ^ 32) is.whole ∙ sym (first-moved block.pre block.up base size small) in
      let moved : (base + plain.moved) % 2 ^ 32 ≡ offset_address block.up base size =
      ap (λ p. (base + p.moved) % 2 ^ 32) is.whole ∙ sym (base-moved block.up base size) in
      loads-alone block site file bus base (listed block.list is.some) (counter-apart block.list is.list) is.present
      (operand-present file (counter site) block.rn is.rn)
      ∙ sym (ap (λ w. made w ((base + plain.first) % 2 ^ 32) ((base + plain.moved) % 2 ^ 32)) writes
      ∙ ap (λ a. made (block.write && not (bit block.list block.rn)) a ((base + plain.moved) % 2 ^ 32)) first
      ∙ ap (made (block.write && not (bit block.list block.rn)) (lowest block.pre block.up base size)) moved)

  -- LDM of a plain block
  pub plain_loads : (plain : PlainBlock) (site : Site) (rn list base address cost : ℕ) (file file' : List ℕ)
      (bus : State) → IsPlain plain → rn ≡ plain.block.rn → list ≡ plain.block.list → base ≡ register file rn
      → base < 2 ^ 32 → address ≡ aligned Word ((base + plain.first) % 2 ^ 32)
      → file' ≡ with_write_back plain.load_writes plain.block.rn ((base + plain.moved) % 2 ^ 32) file
      → cost ≡ code_cost price bus site true
      → after_load_block price load store plain.block site file bus
      ≡ loads price load store false site (registers_in list 0 16) address false (done_of file' bus (cost + 1))
  plain_loads plain site rn list base address cost file file' bus is n l b small a f k =
      let small' : register file plain.block.rn < 2 ^ 32 = rw (← n, ← b) small in
      rw (f, a, k, l, b, n) (plain-loads plain site file bus is small')

  -- behind the first access the base is written already
  stores-behind : (site : Site) (write : Bool) (rn base : ℕ) (numbers : List ℕ) (address : ℕ) (done : Done State)
      → stores price load store false site write rn base numbers address true done
      ≡ stores price load store false site false 0 0 numbers address true done
  unfolding stores
  stores-behind site write rn base [] address done = refl
  stores-behind site write rn base (number ∷ rest) address done =
      let wrote = store done.bus address Word (block_register false site done.registers number) true in
      stores-behind site write rn base rest ((address + 4) % 2 ^ 32)
      (record { registers = done.registers; bus = wrote.after; cycles = done.cycles + wrote.price })

  -- one register stored behind the first access
  pub stores_next : (site : Site) (list number rest address : ℕ) (file : List ℕ) (bus bus' : State) (cycles cost : ℕ)
      → 0 < list → list < 2 ^ 15
      → number ≡ trailing_zeros w32 list → rest ≡ bit_and list (list - 1)
      → bus' ≡ (store bus address Word (register file number) true).after
      → cost ≡ (store bus address Word (register file number) true).price
      → stores price load store false site false 0 0 (registers_in rest 0 16) ((address + 4) % 2 ^ 32) true
      (done_of file bus' (cycles + cost))
      ≡ stores price load store false site false 0 0 (registers_in list 0 16) address true (done_of file bus cycles)
  stores_next site list number rest address file bus bus' cycles cost some small n r e₁ e₂ =
      let below : number < 15 = rw n (first_below list some small) in
      let value = sym (stored-present site file number below) in
      stores_first price load store false site false 0 0 list number rest address true file file bus bus' cycles
      cost some (omega arith) n r refl (e₁ ∙ ap (λ v. (store bus address Word v true).after) value)
      (e₂ ∙ ap (λ v. (store bus address Word v true).price) value)

  plain-stores : (plain : PlainBlock) (site : Site) (number rest address : ℕ) (file file' : List ℕ) (bus bus' : State)
      (cost : ℕ) → IsPlain plain → register file plain.block.rn < 2 ^ 32
      → number ≡ trailing_zeros w32 plain.block.list → rest ≡ bit_and plain.block.list (plain.block.list - 1)
      → address ≡ aligned Word ((register file plain.block.rn + plain.first) % 2 ^ 32)
      → bus' ≡ (store bus address Word (register file number) false).after
      → cost ≡ (store bus address Word (register file number) false).price
      → file'
      ≡ with_write_back plain.block.write plain.block.rn ((register file plain.block.rn + plain.moved) % 2 ^ 32) file
      → after_store_block price load store plain.block site file bus
      ≡ stores price load store false site false 0 0 (registers_in rest 0 16) ((address + 4) % 2 ^ 32) true
      (done_of file' bus' (code_cost price bus site false + cost))
  plain-stores plain site number rest address file file' bus bus' cost is small n r a e₁ e₂ e₃ =
      let block = plain.block in
      let list = block.list in
      let base = register file block.rn in
      let size = span list in
      let code = code_cost price bus site false in
      let target = (base + plain.moved) % 2 ^ 32 in
      let made : ℕ → ℕ → Done State = λ first moved.
      stores price load store false site block.write block.rn moved (registers_in list 0 16) (aligned Word first) false
      (done_of file bus code) in
      let first : (base + plain.first) % 2 ^ 32 ≡ lowest block.pre block.up base size =
      ap (λ p. (base + p.first) % 2 ^ 32) is.whole ∙ sym (first-moved block.pre block.up base size small) in
      let moved : target ≡ offset_address block.up base size =
      ap (λ p. (base + p.moved) % 2 ^ 32) is.whole ∙ sym (base-moved block.up base size) in
      let below : number < 15 = rw n (first_below list is.some is.list) in
      let value = sym (stored-present site file number below) in
      stores-alone block site file bus base (listed list is.some) is.present
      (operand-present file (counter site) block.rn is.rn)
      ∙ sym (ap (λ a. made a target) first ∙ ap (made (lowest block.pre block.up base size)) moved)
      ∙ ap (λ at. stores price load store false site block.write block.rn target (registers_in list 0 16) at false
      (done_of file bus code)) (sym a)
      ∙ sym (stores_first price load store false site block.write block.rn target list number rest address false
      file file' bus bus' code cost is.some (omega arith) n r e₃
      (e₁ ∙ ap (λ v. (store bus address Word v false).after) value)
      (e₂ ∙ ap (λ v. (store bus address Word v false).price) value))
      ∙ stores-behind site block.write block.rn target (registers_in rest 0 16) ((address + 4) % 2 ^ 32) _

  -- STM of a plain block: its first access, the base, and the others
  pub plain_stores : (plain : PlainBlock) (site : Site) (rn list base number rest address cost code : ℕ)
      (file file' : List ℕ) (bus bus' : State) → IsPlain plain
      → rn ≡ plain.block.rn → list ≡ plain.block.list → base ≡ register file rn → base < 2 ^ 32
      → number ≡ trailing_zeros w32 list → rest ≡ bit_and list (list - 1)
      → address ≡ aligned Word ((base + plain.first) % 2 ^ 32)
      → bus' ≡ (store bus address Word (register file number) false).after
      → cost ≡ (store bus address Word (register file number) false).price
      → file' ≡ with_write_back plain.block.write plain.block.rn ((base + plain.moved) % 2 ^ 32) file
      → code ≡ code_cost price bus site false
      → after_store_block price load store plain.block site file bus
      ≡ stores price load store false site false 0 0 (registers_in rest 0 16) ((address + 4) % 2 ^ 32) true
      (done_of file' bus' (code + cost))
  plain_stores plain site rn list base number rest address cost code file file' bus bus' is n l b small t r a e₁
      e₂ e₃ k =
      let small' : register file plain.block.rn < 2 ^ 32 = rw (← n, ← b) small in
      let base' : base ≡ register file plain.block.rn = b ∙ ap (register file) n in
      rw k
      (plain-stores plain site number rest address file file' bus bus' cost is small'
      (t ∙ ap (λ m. trailing_zeros w32 m) l) (r ∙ ap (λ m. bit_and m (m - 1)) l)
      (a ∙ ap (λ m. aligned Word ((m + plain.first) % 2 ^ 32)) base') e₁ e₂
      (e₃ ∙ ap (λ m. with_write_back plain.block.write plain.block.rn ((m + plain.moved) % 2 ^ 32) file) base'))
