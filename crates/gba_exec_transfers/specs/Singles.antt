use Rattle.std.specs.Prelude.{ℕ, Bool, true, false, not, List, ◌&&◌, ◌||◌, ◌+◌, ◌-◌, ◌*◌, ◌%◌, ◌^◌, ◌==◌, if◌then◌else◌}
use Rattle.gba_word.specs.Extension.{sign_extension}
use Rattle.gba_word.specs.Shifts.{rotation, fixed_shift}
use Rattle.gba_arm_table.specs.declared.operation.HalfOffset.{HalfOffset}
use Rattle.gba_arm_table.specs.declared.operation.HalfOffset.TheVariants as half_offset
use Rattle.gba_arm_table.specs.declared.operation.TransferOffset.{TransferOffset}
use Rattle.gba_arm_table.specs.declared.operation.TransferOffset.TheVariants as transfer_offset
use Rattle.gba_bus.specs.Meanings.{Load, Loaded, Price, Store, Stored}
use Rattle.gba_bus.specs.Widths.{aligned}
use Rattle.gba_bus.specs.declared.width.Width.{Width}
use Rattle.gba_bus.specs.declared.width.Width.TheVariants as width
use Rattle.gba_psr.specs.RegisterFile.{flags, with_register}
use Rattle.gba_exec_registers.specs.Access.{code_cost, counter, late_counter, operand_register, refill_cost, with_result}
use Rattle.gba_exec_transfers.specs.Done.{Done}
use Rattle.gba_exec_registers.specs.declared.site.Site.{Site}
use Rattle.gba_exec_transfers.specs.declared.units.LoadUnit.{LoadUnit}
use Rattle.gba_exec_transfers.specs.declared.units.LoadUnit.TheVariants as unit
use Rattle.gba_exec_transfers.specs.declared.units.SingleTransfer.{SingleTransfer}

-- how far a transfer's address is from its base (ARM Architecture Reference Manual, A5.2 and A5.3)
unfoldable pub transfer_distance : TransferOffset → Site → List ℕ → ℕ
transfer_distance (transfer_offset.Number value) site file = value
transfer_distance (transfer_offset.Shifted rm kind amount) site file =
    (fixed_shift kind (operand_register file (counter site) rm) amount (flags file).carry).0

unfoldable pub half_distance : HalfOffset → Site → List ℕ → ℕ
half_distance (half_offset.Number value) site file = value
half_distance (half_offset.Plain rm) site file = operand_register file (counter site) rm

-- the base moved up or down
abbrev pub offset_address : Bool → ℕ → ℕ → ℕ
offset_address up base distance = if up then (base + distance) % 2 ^ 32 else (base + (2 ^ 32 - distance)) % 2 ^ 32

-- the base written back, but never r15 (that it isn't is this project's profile)
unfoldable pub with_write_back : Bool → ℕ → ℕ → List ℕ → List ℕ
with_write_back write rn base file = if write && not (rn == 15) then with_register file rn base else file

-- What a load reads: how wide, and what Rd gets of it (ARM Architecture Reference Manual, A5.2 and A5.3). A word at a
-- misaligned address is the aligned word turned right by 8 bits a byte, and a halfword at an odd address the one below
-- turned right by 8; a signed halfword at an odd address is the signed byte there (this project's profile).
abbrev pub unit_width : LoadUnit → ℕ → Width
unit_width unit.Word address = width.Word
unit_width unit.Byte address = width.Byte
unit_width unit.Half address = width.Half
unit_width unit.SignedByte address = width.Byte
unit_width unit.SignedHalf address = if address % 2 == 1 then width.Byte else width.Half

abbrev pub unit_value : LoadUnit → ℕ → ℕ → ℕ
unit_value unit.Word address read = rotation read (8 * (address % 4))
unit_value unit.Byte address read = read
unit_value unit.Half address read = rotation read (8 * (address % 2))
unit_value unit.SignedByte address read = sign_extension read 8
unit_value unit.SignedHalf address read = sign_extension read (if address % 2 == 1 then 8 else 16)

-- the base of a transfer, and the base moved
abbrev pub base_of : SingleTransfer → Site → List ℕ → ℕ
base_of one site file = operand_register file (counter site) one.rn

abbrev pub offset_base : SingleTransfer → Site → List ℕ → ℕ
offset_base one site file = offset_address one.up (base_of one site file) one.distance

-- the address of a transfer: with P the base moved, else the base
unfoldable pub transfer_address : SingleTransfer → Site → List ℕ → ℕ
transfer_address one site file = if one.pre then offset_base one site file else base_of one site file

-- the base takes the moved base with W, and always without P
unfoldable pub with_transfer_base : SingleTransfer → Site → List ℕ → List ℕ
with_transfer_base one site file = with_write_back (one.write || not one.pre) one.rn (offset_base one site file) file

module _ {State : Type 0} (price : Price State) (load : Load State) (store : Store State) where
  -- one non-sequential load of an instruction
  unfoldable pub unit_load : LoadUnit → Site → ℕ → State → Loaded State
  unit_load kind site address bus =
      let width = unit_width kind address in
      let read = load bus site.address (aligned width address) width false in
      record { value = unit_value kind address read.value; price = read.price; after = read.after }

  -- one non-sequential store of an instruction
  unfoldable pub unit_store : Width → ℕ → ℕ → State → Stored State
  unit_store kind address value bus = store bus (aligned kind address) kind value false

  -- LDR and its kinds (ARM Architecture Reference Manual, A4.1). The base is written first, so that a loaded value
  -- wins. 1S of code, 1N of data and one cycle, and 1S + 1N where r15 is loaded (ARM7TDMI Technical Reference Manual,
  -- load register).
  unfoldable pub after_load : LoadUnit → SingleTransfer → Site → List ℕ → State → Done State
  after_load kind one site file bus =
      let got = unit_load kind site (transfer_address one site file) bus in
      let code = code_cost price bus site in
      record {
        registers = with_result (with_transfer_base one site file) one.rd got.value;
        bus = got.after;
        cycles = code true + got.price + 1 + refill_cost one.rd code;
      }

  -- STR and its kinds (ARM Architecture Reference Manual, A4.1). The register is read before the base is written.
  -- 1N of code and 1N of data (ARM7TDMI Technical Reference Manual, store register).
  unfoldable pub after_store : Width → SingleTransfer → Site → List ℕ → State → Done State
  after_store kind one site file bus =
      let value = operand_register file (late_counter site) one.rd in
      let stored = unit_store kind (transfer_address one site file) value bus in
      record {
        registers = with_transfer_base one site file;
        bus = stored.after;
        cycles = code_cost price bus site false + stored.price;
      }

  -- SWP: loads from Rn, then stores Rm there, then Rd takes what was loaded (ARM Architecture Reference Manual, A4.1).
  -- 1S of code, 2N of data and one cycle, and 1S + 1N where r15 is loaded (ARM7TDMI Technical Reference Manual,
  -- swap).
  unfoldable pub after_swap : Bool → ℕ → ℕ → ℕ → Site → List ℕ → State → Done State
  after_swap byte rn rd rm site file bus =
      let address = operand_register file (counter site) rn in
      let got = unit_load (if byte then unit.Byte else unit.Word) site address bus in
      let value = operand_register file (counter site) rm in
      let stored = unit_store (if byte then width.Byte else width.Word) address value got.after in
      let code = code_cost price bus site in
      record {
        registers = with_result file rd got.value;
        bus = stored.after;
        cycles = code true + got.price + stored.price + 1 + refill_cost rd code;
      }
