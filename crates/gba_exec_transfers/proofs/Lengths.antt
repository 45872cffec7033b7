use Rattle.std.proofs.Common.{ℕ, Bool, ◌+◌, ◌*◌, ◌%◌, ◌^◌, ◌≤◌, ◌==◌, ◌&&◌, ◌||◌, true, false, not, List, [], ◌∷◌, length, zero, suc, arith, if◌then◌else◌}
use Rattle.std.proofs.lemmas.Bool.Decides.{nat_tests}
use Rattle.std.specs.List.{range_with_len}
use Rattle.std.specs.Prelude.{Option, Some, None, filter}
use Rattle.gba_terms.specs.Bits.{bit}
use Rattle.gba_arm_table.specs.declared.operation.ArmOp.{ArmOp}
use Rattle.gba_arm_table.specs.declared.operation.ArmOp.TheVariants as op
use Rattle.gba_arm_table.specs.declared.operation.HalfKind.TheVariants.{StoreHalf, LoadHalf, LoadSignedByte, LoadSignedHalf}
use Rattle.gba_arm_table.specs.declared.operation.Operand.{Operand}
use Rattle.gba_arm_table.specs.declared.operation.Operand.TheVariants as operand
use Rattle.gba_bus.specs.Meanings.{CodePriced, IsPrice, Load, LoadsPriced, Price, Store, StoresPriced}
use Rattle.gba_bus.specs.Widths.{aligned}
use Rattle.gba_bus.specs.declared.width.Width.{Width}
use Rattle.gba_bus.specs.declared.width.Width.TheVariants as width
use Rattle.gba_bus.specs.declared.width.Width.TheVariants.{Word}
use Rattle.gba_exec_registers.specs.Access.{code_cost, code_width, counter, jump_cost, late_counter, operand_register}
use Rattle.gba_exec_transfers.specs.Blocks.{after_load_block, after_store_block, block_register, first_address, full_list, registers_in, loads, span, stores, with_block_register}
use Rattle.gba_exec_transfers.specs.Done.{Done, IsStepLength}
use Rattle.gba_exec_transfers.specs.Effects.{effect, effect_of_word}
use Rattle.gba_exec_registers.specs.Multiplying.{multiplier_cycles}
use Rattle.gba_exec_registers.specs.Processing.{shift_cost}
use Rattle.gba_exec_transfers.specs.Singles.{after_load, after_store, after_swap, half_distance, unit_load, offset_address, unit_store, with_write_back, transfer_address, transfer_distance, unit_width}
use Rattle.gba_exec_registers.specs.declared.site.Site.{Site}
use Rattle.gba_exec_transfers.specs.declared.units.BlockTransfer.{BlockTransfer}
use Rattle.gba_exec_transfers.specs.declared.units.LoadUnit.{LoadUnit}
use Rattle.gba_exec_transfers.specs.declared.units.LoadUnit.TheVariants as unit
use Rattle.gba_exec_transfers.specs.declared.units.SingleTransfer.{SingleTransfer}

-- How long operations take where each price of the bus is from 1 to 18.

kept_below : (test : Bool) (first : ℕ) (rest : List ℕ) (count : ℕ) → length rest ≤ count
    → length (if test then first ∷ rest else rest) ≤ suc count
kept_below true first rest count below = omega arith
kept_below false first rest count below = omega arith

filter_below : (p : ℕ → Bool) (first count : ℕ) → length (filter p (range_with_len first count)) ≤ count
filter_below p first zero = omega arith
filter_below p first (suc count) =
    let rest = filter_below p (first + 1) count in
    kept_below (p first) first (filter p (range_with_len (first + 1) count)) count rest

registers_in_below : (list : ℕ) → length (registers_in list 0 16) ≤ 16
unfolding registers_in
registers_in_below list = filter_below (λ number. bit list number) 0 16

multiplier_below : (signed : Bool) (value : ℕ)
    → (1 ≤ multiplier_cycles signed value) × (multiplier_cycles signed value ≤ 4)
unfolding multiplier_cycles
multiplier_below signed value = grind (arith, nat_tests)

shift_below : (one : Operand) → shift_cost one ≤ 1
shift_below (operand.Immediate value turn) = omega arith
shift_below (operand.Fixed rm kind amount) = omega arith
shift_below (operand.ByRegister rm kind rs) = omega arith

flag_below : (flag : Bool) → (if flag then 1 else 0) ≤ 1
flag_below true = omega arith
flag_below false = omega arith

chosen_below : (flag : Bool) (n : ℕ) → n ≤ 36 → (if flag then n else 0) ≤ 36
chosen_below true n below = below
chosen_below false n below = omega arith

module _ {State : Type 0} (price : Price State) (load : Load State) (store : Store State)
    (code_prices : CodePriced price) (load_prices : LoadsPriced load) (store_prices : StoresPriced store) where
  code_price : (bus : State) (site : Site) (sequential : Bool) → IsPrice (code_cost price bus site sequential)
  code_price bus site sequential = code_prices bus site.address (code_width site) sequential

  refill_below : (bus : State) (site : Site) (flag : Bool)
      → (if flag then code_cost price bus site true + code_cost price bus site false else 0) ≤ 36
  refill_below bus site flag =
      let first = code_price bus site true in
      let second = code_price bus site false in
      chosen_below flag (code_cost price bus site true + code_cost price bus site false)
      (omega (arith, first.most, second.most))

  loads_length : (user : Bool) (site : Site) (numbers : List ℕ) (address : ℕ) (sequential : Bool) (done : Done State)
      → (done.cycles ≤ (loads price load store user site numbers address sequential done).cycles)
      × ((loads price load store user site numbers address sequential done).cycles ≤ done.cycles + 18 * length numbers)
  unfolding loads
  loads_length user site [] address sequential done = (omega arith, omega arith)
  loads_length user site (number ∷ rest) address sequential done =
      let one = load_prices done.bus site.address address Word sequential in
      let later =
      loads_length user site rest ((address + 4) % 2 ^ 32) true
      (record {
        registers =
            with_block_register user done.registers number (load done.bus site.address address Word sequential).value;
        bus = (load done.bus site.address address Word sequential).after;
        cycles = done.cycles + (load done.bus site.address address Word sequential).price;
      }) in
      (omega (arith, one.least, later.0), omega (arith, one.most, later.1))

  stores_length : (user : Bool) (site : Site) (write : Bool) (rn base : ℕ) (numbers : List ℕ) (address : ℕ)
      (sequential : Bool) (done : Done State)
      → (done.cycles ≤ (stores price load store user site write rn base numbers address sequential done).cycles)
      × ((stores price load store user site write rn base numbers address sequential done).cycles
      ≤ done.cycles + 18 * length numbers)
  unfolding stores
  stores_length user site write rn base [] address sequential done = (omega arith, omega arith)
  stores_length user site write rn base (number ∷ rest) address sequential done =
      let one = store_prices done.bus address Word (block_register user site done.registers number) sequential in
      let later =
      stores_length user site write rn base rest ((address + 4) % 2 ^ 32) true
      (record {
        registers = if sequential then done.registers else with_write_back write rn base done.registers;
        bus = (store done.bus address Word (block_register user site done.registers number) sequential).after;
        cycles =
            done.cycles
            + (store done.bus address Word (block_register user site done.registers number) sequential).price;
      }) in
      (omega (arith, one.least, later.0), omega (arith, one.most, later.1))

  jump_length : (site : Site) (bus : State) → IsStepLength (jump_cost (code_cost price bus site))
  jump_length site bus =
      let first = code_price bus site true in
      let second = code_price bus site false in
      record { least = omega (arith, first.least); most = omega (arith, first.most, second.most) }

  load_length : (kind : LoadUnit) (one : SingleTransfer) (site : Site) (file : List ℕ) (bus : State)
      → IsStepLength (after_load price load store kind one site file bus).cycles
  unfolding after_load unit_load
  load_length kind one site file bus =
      let code = code_price bus site true in
      let address = transfer_address one site file in
      let wide = unit_width kind address in
      let price_of_data = load_prices bus site.address (aligned wide address) wide false in
      let refill = refill_below bus site (one.rd == 15) in
      record { least = omega (arith, code.least); most = omega (arith, code.most, price_of_data.most, refill) }

  store_length : (kind : Width) (one : SingleTransfer) (site : Site) (file : List ℕ) (bus : State)
      → IsStepLength (after_store price load store kind one site file bus).cycles
  unfolding after_store unit_store
  store_length kind one site file bus =
      let code = code_price bus site false in
      let price_of_data =
      store_prices bus (aligned kind (transfer_address one site file)) kind
      (operand_register file (late_counter site) one.rd) false in
      record { least = omega (arith, code.least); most = omega (arith, code.most, price_of_data.most) }

  swap_length : (byte : Bool) (rn rd rm : ℕ) (site : Site) (file : List ℕ) (bus : State)
      → IsStepLength (after_swap price load store byte rn rd rm site file bus).cycles
  unfolding after_swap unit_load unit_store
  swap_length byte rn rd rm site file bus =
      let code = code_price bus site true in
      let address = operand_register file (counter site) rn in
      let kind = if byte then unit.Byte else unit.Word in
      let wide = if byte then width.Byte else width.Word in
      let read_width = unit_width kind address in
      let got = load bus site.address (aligned read_width address) read_width false in
      let read = load_prices bus site.address (aligned read_width address) read_width false in
      let wrote = store_prices got.after (aligned wide address) wide (operand_register file (counter site) rm) false in
      let refill = refill_below bus site (rd == 15) in
      record { least = omega (arith, code.least); most = omega (arith, code.most, read.most, wrote.most, refill) }

  load_block_length : (block : BlockTransfer) (site : Site) (file : List ℕ) (bus : State)
      → IsStepLength (after_load_block price load store block site file bus).cycles
  unfolding after_load_block
  load_block_length block site file bus =
      let code = code_price bus site true in
      let counter_loaded = bit (full_list block.list) 15 in
      let base = operand_register file (counter site) block.rn in
      let refill = refill_below bus site counter_loaded in
      let few = registers_in_below (full_list block.list) in
      let run =
      loads_length (block.user && not counter_loaded) site (registers_in (full_list block.list) 0 16)
      (first_address block base) false (record {
        registers =
            with_write_back (block.write && not (bit block.list block.rn)) block.rn
            (offset_address block.up base (span block.list)) file;
        bus = bus;
        cycles = code_cost price bus site true + 1;
      }) in
      record { least = omega (arith, run.0); most = omega (arith, code.most, run.1, few, refill) }

  store_block_length : (block : BlockTransfer) (site : Site) (file : List ℕ) (bus : State)
      → IsStepLength (after_store_block price load store block site file bus).cycles
  unfolding after_store_block
  store_block_length block site file bus =
      let code = code_price bus site false in
      let base = operand_register file (counter site) block.rn in
      let few = registers_in_below (full_list block.list) in
      let run =
      stores_length block.user site block.write block.rn (offset_address block.up base (span block.list))
      (registers_in (full_list block.list) 0 16) (first_address block base) false
      (record { registers = file; bus = bus; cycles = code_cost price bus site false }) in
      record { least = omega (arith, code.least, run.0); most = omega (arith, code.most, run.1, few) }

  performed_length : (one : ArmOp) (site : Site) (file : List ℕ) (bus : State)
      → IsStepLength (effect price load store one site file bus).cycles
  unfolding effect
  performed_length (op.Exchange cond rm) site file bus = jump_length site bus
  performed_length (op.Multiply cond accumulate set rd rn rs rm) site file bus =
      let code = code_price bus site true in
      let cycles = multiplier_below true (operand_register file (counter site) rs) in
      let one = flag_below accumulate in
      let refill = refill_below bus site (rd == 15) in
      record { least = omega (arith, code.least); most = omega (arith, code.most, cycles.1, one, refill) }
  performed_length (op.MultiplyLong cond signed accumulate set hi lo rs rm) site file bus =
      let code = code_price bus site true in
      let cycles = multiplier_below signed (operand_register file (counter site) rs) in
      let one = flag_below accumulate in
      let refill = refill_below bus site (hi == 15 || lo == 15) in
      record { least = omega (arith, code.least); most = omega (arith, code.most, cycles.1, one, refill) }
  performed_length (op.Swap cond byte rn rd rm) site file bus = swap_length byte rn rd rm site file bus
  performed_length (op.Half cond StoreHalf pre up write rn rd offset) site file bus =
      store_length width.Half
      (record { pre = pre; up = up; write = write; rn = rn; rd = rd; distance = half_distance offset site file }) site
      file bus
  performed_length (op.Half cond LoadHalf pre up write rn rd offset) site file bus =
      load_length unit.Half
      (record { pre = pre; up = up; write = write; rn = rn; rd = rd; distance = half_distance offset site file }) site
      file bus
  performed_length (op.Half cond LoadSignedByte pre up write rn rd offset) site file bus =
      load_length unit.SignedByte
      (record { pre = pre; up = up; write = write; rn = rn; rd = rd; distance = half_distance offset site file }) site
      file bus
  performed_length (op.Half cond LoadSignedHalf pre up write rn rd offset) site file bus =
      load_length unit.SignedHalf
      (record { pre = pre; up = up; write = write; rn = rn; rd = rd; distance = half_distance offset site file }) site
      file bus
  performed_length (op.ReadStatus cond saved rd) site file bus =
      let code = code_price bus site true in
      let refill = refill_below bus site (rd == 15) in
      record { least = omega (arith, code.least); most = omega (arith, code.most, refill) }
  performed_length (op.WriteStatus cond saved fields source) site file bus =
      let code = code_price bus site true in
      record { least = omega (arith, code.least); most = omega (arith, code.most) }
  performed_length (op.Compute cond kind set rn rd one) site file bus =
      let code = code_price bus site true in
      let shift = shift_below one in
      let refill = refill_below bus site (rd == 15) in
      record { least = omega (arith, code.least); most = omega (arith, code.most, shift, refill) }
  performed_length (op.Compare cond kind rn one) site file bus =
      let code = code_price bus site true in
      let shift = shift_below one in
      record { least = omega (arith, code.least); most = omega (arith, code.most, shift) }
  performed_length (op.Transfer cond true byte pre up write rn rd offset) site file bus =
      load_length (if byte then unit.Byte else unit.Word)
      (record { pre = pre; up = up; write = write; rn = rn; rd = rd; distance = transfer_distance offset site file })
      site file bus
  performed_length (op.Transfer cond false byte pre up write rn rd offset) site file bus =
      store_length (if byte then width.Byte else width.Word)
      (record { pre = pre; up = up; write = write; rn = rn; rd = rd; distance = transfer_distance offset site file })
      site file bus
  performed_length (op.Block cond true pre up user write rn list) site file bus =
      load_block_length (record { pre = pre; up = up; user = user; write = write; rn = rn; list = list }) site file bus
  performed_length (op.Block cond false pre up user write rn list) site file bus =
      store_block_length (record { pre = pre; up = up; user = user; write = write; rn = rn; list = list }) site file bus
  performed_length (op.Branch cond link offset) site file bus = jump_length site bus
  performed_length (op.Interrupt cond comment) site file bus = jump_length site bus

  pub word_length : (one : Option ArmOp) (site : Site) (file : List ℕ) (bus : State)
      → IsStepLength (effect_of_word price load store one site file bus).cycles
  unfolding effect_of_word
  word_length None site file bus =
      let jump = jump_length site bus in
      let first = code_price bus site true in
      let second = code_price bus site false in
      record { least = omega (arith, jump.least); most = omega (arith, first.most, second.most) }
  word_length (Some one) site file bus = performed_length one site file bus
