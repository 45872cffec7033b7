use Rattle.std.specs.Prelude.{ℕ, Bool, true, false, not, List, [], ◌∷◌, ◌&&◌, ◌+◌, ◌-◌, ◌*◌, ◌%◌, ◌^◌, ◌==◌, filter, length, if◌then◌else◌}
use Rattle.std.specs.List.{range_with_len}
use Rattle.gba_terms.specs.Bits.{bit}
use Rattle.gba_bus.specs.Meanings.{Load, Price, Store}
use Rattle.gba_bus.specs.declared.width.Width.TheVariants.{Word}
use Rattle.gba_psr.specs.Entry.{after_leave}
use Rattle.gba_psr.specs.RegisterFile.{register, user_register, with_register, with_user_register}
use Rattle.gba_exec_registers.specs.Access.{code_cost, counter, late_counter, after_jump, operand_register}
use Rattle.gba_exec_transfers.specs.Done.{Done}
use Rattle.gba_exec_transfers.specs.Singles.{offset_address, with_write_back}
use Rattle.gba_exec_registers.specs.declared.site.Site.{Site}
use Rattle.gba_exec_transfers.specs.declared.units.BlockRun.{BlockRun}
use Rattle.gba_exec_transfers.specs.declared.units.BlockTransfer.{BlockTransfer}

-- LDM and STM (ARM Architecture Reference Manual, A4.1 and A5.4).

-- the registers of a list from `first` on, so many of them, the lowest first
unfoldable pub registers_in : ℕ → ℕ → ℕ → List ℕ
registers_in list first count = filter (λ number. bit list number) (range_with_len first count)

-- an empty list transfers r15 alone (this project's profile)
abbrev pub full_list : ℕ → ℕ
full_list list = if list == 0 then 2 ^ 15 else list

-- how far the base moves: 4 a register, and for an empty list as if it had all sixteen (this project's profile)
unfoldable pub span : ℕ → ℕ
span list = if list == 0 then 64 else 4 * length (registers_in list 0 16)

-- the address of the lowest register (ARM Architecture Reference Manual, A5.4)
unfoldable pub lowest : Bool → Bool → ℕ → ℕ → ℕ
lowest pre up base span =
    if up then (if pre then (base + 4) % 2 ^ 32 else base)
    else (if pre then offset_address false base span else (offset_address false base span + 4) % 2 ^ 32)

-- the address of the first access: the low two bits are taken as 0
abbrev pub first_address : BlockTransfer → ℕ → ℕ
first_address block base =
    let address = lowest block.pre block.up base (span block.list) in address - address % 4

-- where the accesses of a block at this base are
abbrev pub block_run : BlockTransfer → ℕ → BlockRun
block_run block base =
    record {
      list = full_list block.list;
      first = first_address block base;
      base = offset_address block.up base (span block.list);
    }

-- a register of the present mode, or with the S bit the user's; r15 is stored as the instruction's address plus 12
unfoldable pub block_register : Bool → Site → List ℕ → ℕ → ℕ
block_register user site file number =
    if number == 15 then late_counter site else if user then user_register file number else register file number

unfoldable pub with_block_register : Bool → List ℕ → ℕ → ℕ → List ℕ
with_block_register user file number value =
    if user then with_user_register file number value else with_register file number value

-- r15 loaded: with the S bit CPSR takes the SPSR, then the jump is made
unfoldable pub after_counter_load : Bool → Bool → List ℕ → List ℕ
after_counter_load counter_loaded user file =
    if counter_loaded then after_jump (if user then after_leave file else file) (register file 15) else file

module _ {State : Type 0} (price : Price State) (load : Load State) (store : Store State) where
  -- Registers loaded one after another from ascending addresses. The first access is non-sequential.
  unfoldable pub loads : Bool → Site → List ℕ → ℕ → Bool → Done State → Done State
  loads user site [] address sequential done = done
  loads user site (number ∷ rest) address sequential done =
      let read = load done.bus site.address address Word sequential in
      loads user site rest ((address + 4) % 2 ^ 32) true (record {
        registers = with_block_register user done.registers number read.value;
        bus = read.after;
        cycles = done.cycles + read.price;
      })

  -- Registers stored one after another to ascending addresses. The base takes `base` after the first of them.
  unfoldable pub stores : Bool → Site → Bool → ℕ → ℕ → List ℕ → ℕ → Bool → Done State → Done State
  stores user site write rn base [] address sequential done = done
  stores user site write rn base (number ∷ rest) address sequential done =
      let wrote = store done.bus address Word (block_register user site done.registers number) sequential in
      stores user site write rn base rest ((address + 4) % 2 ^ 32) true (record {
        registers = if sequential then done.registers else with_write_back write rn base done.registers;
        bus = wrote.after;
        cycles = done.cycles + wrote.price;
      })

  -- LDM. A base in the list isn't written back. The S bit means the user's registers, and with r15 loaded CPSR from the
  -- SPSR instead. 1S of code, 1N and then S of data, one cycle, and 1S + 1N where r15 is loaded
  -- (ARM7TDMI Technical Reference Manual, load multiple).
  unfoldable pub after_load_block : BlockTransfer → Site → List ℕ → State → Done State
  after_load_block block site file bus =
      let base = operand_register file (counter site) block.rn in
      let counter_loaded = bit (full_list block.list) 15 in
      let code = code_cost price bus site in
      let done =
      loads (block.user && not counter_loaded) site (registers_in (full_list block.list) 0 16)
      (first_address block base) false
      (record {
        registers =
            with_write_back (block.write && not (bit block.list block.rn)) block.rn
            (offset_address block.up base (span block.list)) file;
        bus = bus;
        cycles = code true + 1;
      }) in
      record {
        registers = after_counter_load counter_loaded block.user done.registers;
        bus = done.bus;
        cycles = done.cycles + (if counter_loaded then code true + code false else 0);
      }

  -- STM. The S bit means the user's registers. 1N of code, 1N and then S of data
  -- (ARM7TDMI Technical Reference Manual, store multiple).
  unfoldable pub after_store_block : BlockTransfer → Site → List ℕ → State → Done State
  after_store_block block site file bus =
      let base = operand_register file (counter site) block.rn in
      stores block.user site block.write block.rn (offset_address block.up base (span block.list))
      (registers_in (full_list block.list) 0 16) (first_address block base) false
      (record { registers = file; bus = bus; cycles = code_cost price bus site false })
