use Rattle.std.proofs.Common.{ℕ, Bool, true, false, not, List, [], ◌∷◌, ◌+◌, ◌%◌, ◌^◌, ◌&&◌, if◌then◌else◌}
use Rattle.std.specs.Prelude.{Option, Some, None}
use Rattle.gba_terms.specs.Bits.{bit}
use Rattle.gba_arm_table.specs.declared.operation.ArmOp.{ArmOp}
use Rattle.gba_arm_table.specs.declared.operation.ArmOp.TheVariants as op
use Rattle.gba_arm_table.specs.declared.operation.HalfKind.TheVariants.{StoreHalf, LoadHalf, LoadSignedByte, LoadSignedHalf}
use Rattle.gba_bus.specs.Meanings.{Load, Price, Store}
use Rattle.gba_bus.specs.Widths.{aligned}
use Rattle.gba_bus.specs.declared.width.Width.{Width}
use Rattle.gba_bus.specs.declared.width.Width.TheVariants as width
use Rattle.gba_bus.specs.declared.width.Width.TheVariants.{Word}
use Rattle.gba_exec_registers.specs.Access.{code_cost, counter, late_counter, operand_register}
use Rattle.gba_exec_registers.specs.declared.site.Site.{Site}
use Rattle.gba_exec_transfers.specs.Blocks.{after_load_block, after_store_block, block_register, first_address, full_list, loads, registers_in, span, stores, with_block_register}
use Rattle.gba_exec_transfers.specs.Done.{Done}
use Rattle.gba_exec_transfers.specs.Effects.{effect, effect_of_word}
use Rattle.gba_exec_transfers.specs.Keeping.{LoadsKeep, StoresKeep}
use Rattle.gba_exec_transfers.specs.Singles.{after_load, after_store, after_swap, half_distance, offset_address, transfer_address, transfer_distance, unit_load, unit_store, unit_width, with_write_back}
use Rattle.gba_exec_transfers.specs.declared.units.BlockTransfer.{BlockTransfer}
use Rattle.gba_exec_transfers.specs.declared.units.LoadUnit.{LoadUnit}
use Rattle.gba_exec_transfers.specs.declared.units.LoadUnit.TheVariants as unit
use Rattle.gba_exec_transfers.specs.declared.units.SingleTransfer.{SingleTransfer}

-- What operations keep of a bus, where each read and each write keeps it.

module _ {State : Type 0} (price : Price State) (load : Load State) (store : Store State)
    (P : State → Type 0) (loads_keep : LoadsKeep load P) (stores_keep : StoresKeep store P) where
  kept-loads : (user : Bool) (site : Site) (numbers : List ℕ) (address : ℕ) (sequential : Bool) (done : Done State)
      → P done.bus
      → P (loads price load store user site numbers address sequential done).bus
  unfolding loads
  kept-loads user site [] address sequential done holds = holds
  kept-loads user site (number ∷ rest) address sequential done holds =
      kept-loads user site rest ((address + 4) % 2 ^ 32) true
      (record {
        registers =
            with_block_register user done.registers number (load done.bus site.address address Word sequential).value;
        bus = (load done.bus site.address address Word sequential).after;
        cycles = done.cycles + (load done.bus site.address address Word sequential).price;
      })
      (loads_keep done.bus site.address address Word sequential holds)

  kept-stores : (user : Bool) (site : Site) (write : Bool) (rn base : ℕ) (numbers : List ℕ) (address : ℕ)
      (sequential : Bool) (done : Done State) → P done.bus
      → P (stores price load store user site write rn base numbers address sequential done).bus
  unfolding stores
  kept-stores user site write rn base [] address sequential done holds = holds
  kept-stores user site write rn base (number ∷ rest) address sequential done holds =
      let value = block_register user site done.registers number in
      kept-stores user site write rn base rest ((address + 4) % 2 ^ 32) true
      (record {
        registers = if sequential then done.registers else with_write_back write rn base done.registers;
        bus = (store done.bus address Word value sequential).after;
        cycles = done.cycles + (store done.bus address Word value sequential).price;
      })
      (stores_keep done.bus address Word value sequential holds)

  kept-unit-load : (kind : LoadUnit) (site : Site) (address : ℕ) (bus : State) → P bus
      → P (unit_load price load store kind site address bus).after
  unfolding unit_load
  kept-unit-load kind site address bus holds =
      loads_keep bus site.address (aligned (unit_width kind address) address) (unit_width kind address) false holds

  kept-unit-store : (kind : Width) (address value : ℕ) (bus : State) → P bus
      → P (unit_store price load store kind address value bus).after
  unfolding unit_store
  kept-unit-store kind address value bus holds = stores_keep bus (aligned kind address) kind value false holds

  kept-load : (kind : LoadUnit) (one : SingleTransfer) (site : Site) (file : List ℕ) (bus : State) → P bus
      → P (after_load price load store kind one site file bus).bus
  unfolding after_load
  kept-load kind one site file bus holds = kept-unit-load kind site (transfer_address one site file) bus holds

  kept-store : (kind : Width) (one : SingleTransfer) (site : Site) (file : List ℕ) (bus : State) → P bus
      → P (after_store price load store kind one site file bus).bus
  unfolding after_store
  kept-store kind one site file bus holds =
      kept-unit-store kind (transfer_address one site file) (operand_register file (late_counter site) one.rd) bus holds

  kept-swap : (byte : Bool) (rn rd rm : ℕ) (site : Site) (file : List ℕ) (bus : State) → P bus
      → P (after_swap price load store byte rn rd rm site file bus).bus
  unfolding after_swap
  kept-swap byte rn rd rm site file bus holds =
      let address = operand_register file (counter site) rn in
      let kind = if byte then unit.Byte else unit.Word in
      kept-unit-store (if byte then width.Byte else width.Word) address (operand_register file (counter site) rm)
      (unit_load price load store kind site address bus).after
      (kept-unit-load kind site address bus holds)

  kept-load-block : (block : BlockTransfer) (site : Site) (file : List ℕ) (bus : State) → P bus
      → P (after_load_block price load store block site file bus).bus
  unfolding after_load_block
  kept-load-block block site file bus holds =
      let counter_loaded = bit (full_list block.list) 15 in
      let base = operand_register file (counter site) block.rn in
      kept-loads (block.user && not counter_loaded) site (registers_in (full_list block.list) 0 16)
      (first_address block base) false
      (record {
        registers = with_write_back (block.write && not (bit block.list block.rn)) block.rn
            (offset_address block.up base (span block.list)) file;
        bus = bus;
        cycles = code_cost price bus site true + 1;
      })
      holds

  kept-store-block : (block : BlockTransfer) (site : Site) (file : List ℕ) (bus : State) → P bus
      → P (after_store_block price load store block site file bus).bus
  unfolding after_store_block
  kept-store-block block site file bus holds =
      let base = operand_register file (counter site) block.rn in
      kept-stores block.user site block.write block.rn (offset_address block.up base (span block.list))
      (registers_in (full_list block.list) 0 16) (first_address block base) false
      (record { registers = file; bus = bus; cycles = code_cost price bus site false })
      holds

  kept-effect : (one : ArmOp) (site : Site) (file : List ℕ) (bus : State) → P bus
      → P (effect price load store one site file bus).bus
  unfolding effect
  kept-effect (op.Exchange cond rm) site file bus holds = holds
  kept-effect (op.Multiply cond accumulate set rd rn rs rm) site file bus holds = holds
  kept-effect (op.MultiplyLong cond signed accumulate set hi lo rs rm) site file bus holds = holds
  kept-effect (op.Swap cond byte rn rd rm) site file bus holds = kept-swap byte rn rd rm site file bus holds
  kept-effect (op.Half cond StoreHalf pre up write rn rd offset) site file bus holds =
      kept-store width.Half
      (record { pre = pre; up = up; write = write; rn = rn; rd = rd; distance = half_distance offset site file })
      site file bus holds
  kept-effect (op.Half cond LoadHalf pre up write rn rd offset) site file bus holds =
      kept-load unit.Half
      (record { pre = pre; up = up; write = write; rn = rn; rd = rd; distance = half_distance offset site file })
      site file bus holds
  kept-effect (op.Half cond LoadSignedByte pre up write rn rd offset) site file bus holds =
      kept-load unit.SignedByte
      (record { pre = pre; up = up; write = write; rn = rn; rd = rd; distance = half_distance offset site file })
      site file bus holds
  kept-effect (op.Half cond LoadSignedHalf pre up write rn rd offset) site file bus holds =
      kept-load unit.SignedHalf
      (record { pre = pre; up = up; write = write; rn = rn; rd = rd; distance = half_distance offset site file })
      site file bus holds
  kept-effect (op.ReadStatus cond saved rd) site file bus holds = holds
  kept-effect (op.WriteStatus cond saved fields source) site file bus holds = holds
  kept-effect (op.Compute cond kind set rn rd one) site file bus holds = holds
  kept-effect (op.Compare cond kind rn one) site file bus holds = holds
  kept-effect (op.Transfer cond true byte pre up write rn rd offset) site file bus holds =
      kept-load (if byte then unit.Byte else unit.Word)
      (record { pre = pre; up = up; write = write; rn = rn; rd = rd; distance = transfer_distance offset site file })
      site file bus holds
  kept-effect (op.Transfer cond false byte pre up write rn rd offset) site file bus holds =
      kept-store (if byte then width.Byte else width.Word)
      (record { pre = pre; up = up; write = write; rn = rn; rd = rd; distance = transfer_distance offset site file })
      site file bus holds
  kept-effect (op.Block cond true pre up user write rn list) site file bus holds =
      kept-load-block (record { pre = pre; up = up; user = user; write = write; rn = rn; list = list }) site file
      bus holds
  kept-effect (op.Block cond false pre up user write rn list) site file bus holds =
      kept-store-block (record { pre = pre; up = up; user = user; write = write; rn = rn; list = list }) site file
      bus holds
  kept-effect (op.Branch cond link offset) site file bus holds = holds
  kept-effect (op.Interrupt cond comment) site file bus holds = holds

  pub kept-word : (one : Option ArmOp) (site : Site) (file : List ℕ) (bus : State) → P bus
      → P (effect_of_word price load store one site file bus).bus
  unfolding effect_of_word
  kept-word None site file bus holds = holds
  kept-word (Some one) site file bus holds = kept-effect one site file bus holds
