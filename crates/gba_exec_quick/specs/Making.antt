use Rattle.std.specs.Int.{cast_unsigned, w32}
use Rattle.std.specs.Prelude.{ℕ, Bool, true, false, not, ◌&&◌, ◌||◌, ◌-◌, ◌*◌, ◌%◌, ◌^◌, ◌<◌, ◌≤◌, ◌==◌, Option, Some, None, if◌then◌else◌}
use Rattle.gba_word.specs.Shifts.{rotation}
use Rattle.gba_word.specs.declared.kinds.Shift.{Shift}
use Rattle.gba_word.specs.declared.kinds.Shift.TheVariants.{Lsl, Lsr, Asr, Ror}
use Rattle.gba_arm_table.specs.Limits.{Fits}
use Rattle.gba_arm_table.specs.declared.operation.ArmOp.{ArmOp}
use Rattle.gba_arm_table.specs.declared.operation.ArmOp.TheVariants as op
use Rattle.gba_arm_table.specs.declared.operation.ComputeOp.{ComputeOp}
use Rattle.gba_arm_table.specs.declared.operation.ComputeOp.TheVariants.{And, Eor, Sub, Rsb, Add, Adc, Orr, Mov, Bic, Mvn}
use Rattle.gba_arm_table.specs.declared.operation.HalfKind.{HalfKind}
use Rattle.gba_arm_table.specs.declared.operation.HalfKind.TheVariants.{StoreHalf, LoadHalf, LoadSignedByte, LoadSignedHalf}
use Rattle.gba_arm_table.specs.declared.operation.HalfOffset.TheVariants as half_offset
use Rattle.gba_arm_table.specs.declared.operation.Operand.{Operand}
use Rattle.gba_arm_table.specs.declared.operation.Operand.TheVariants as operand
use Rattle.gba_arm_table.specs.declared.operation.TransferOffset.TheVariants as transfer_offset
use Rattle.gba_bus.specs.declared.width.Width.{Width}
use Rattle.gba_bus.specs.declared.width.Width.TheVariants as width
use Rattle.gba_exec_registers.specs.Processing.{compute_op_of}
use Rattle.gba_exec_transfers.specs.Plain.{IsPlain, is_plain, plain_of}
use Rattle.gba_exec_transfers.specs.declared.units.BlockTransfer.{BlockTransfer}
use Rattle.gba_exec_transfers.specs.declared.units.LoadUnit.{LoadUnit}
use Rattle.gba_exec_transfers.specs.declared.units.LoadUnit.TheVariants as unit
use Rattle.gba_exec_transfers.specs.declared.units.PlainBlock.{PlainBlock}
use Rattle.gba_exec_transfers.specs.declared.units.SingleTransfer.{SingleTransfer}
use Rattle.gba_exec_quick.specs.declared.quick.Quick.{Quick}
use Rattle.gba_exec_quick.specs.declared.quick.Quick.TheVariants as quick

-- The quick form of each operation. `whole` is the operation itself, for the shapes without one.

abbrev pub is_lsl : Shift → Bool
is_lsl Lsl = true
is_lsl Lsr = false
is_lsl Asr = false
is_lsl Ror = false

-- whether an offset counts up: as a number modulo 2 ^ 32 that is added
abbrev pub signed_offset : Bool → ℕ → ℕ
signed_offset up distance = if up then distance else (2 ^ 32 - distance) % 2 ^ 32

-- the commonest operations have a form of their own
abbrev pub number_form : ComputeOp → ℕ → ℕ → ℕ → Quick
number_form Add rn rd value = quick.AddNumber rn rd value
number_form Sub rn rd value = quick.SubNumber rn rd value
number_form And rn rd value = quick.AndNumber rn rd value
number_form Orr rn rd value = quick.OrrNumber rn rd value
number_form Bic rn rd value = quick.BicNumber rn rd value
number_form Mov rn rd value = quick.MovNumber rn rd value
number_form kind rn rd value = quick.Number kind rn rd value

abbrev pub plain_form : ComputeOp → ℕ → ℕ → ℕ → Quick
plain_form Add rn rd rm = quick.AddPlain rn rd rm
plain_form Sub rn rd rm = quick.SubPlain rn rd rm
plain_form And rn rd rm = quick.AndPlain rn rd rm
plain_form Orr rn rd rm = quick.OrrPlain rn rd rm
plain_form Eor rn rd rm = quick.EorPlain rn rd rm
plain_form Mov rn rd rm = quick.MovPlain rn rd rm
plain_form Rsb rn rd rm = quick.RsbPlain rn rd rm
plain_form Mvn rn rd rm = quick.MvnPlain rn rd rm
plain_form kind rn rd rm = quick.Plain kind rn rd rm

abbrev pub set_number_form : ComputeOp → ℕ → ℕ → ℕ → Bool → Quick
set_number_form Add rn rd value turned = quick.SetAddNumber rn rd value turned
set_number_form Sub rn rd value turned = quick.SetSubNumber rn rd value turned
set_number_form Mov rn rd value turned = quick.SetMovNumber rn rd value turned
set_number_form kind rn rd value turned = quick.SetNumber kind rn rd value turned

abbrev pub set_plain_form : ComputeOp → ℕ → ℕ → ℕ → Quick
set_plain_form Add rn rd rm = quick.SetAddPlain rn rd rm
set_plain_form Sub rn rd rm = quick.SetSubPlain rn rd rm
set_plain_form And rn rd rm = quick.SetAndPlain rn rd rm
set_plain_form Eor rn rd rm = quick.SetEorPlain rn rd rm
set_plain_form Adc rn rd rm = quick.SetAdcPlain rn rd rm
set_plain_form Orr rn rd rm = quick.SetOrrPlain rn rd rm
set_plain_form Bic rn rd rm = quick.SetBicPlain rn rd rm
set_plain_form Mvn rn rd rm = quick.SetMvnPlain rn rd rm
set_plain_form kind rn rd rm = quick.SetPlain kind rn rd rm

abbrev pub set_shifted_form : ComputeOp → ℕ → ℕ → ℕ → Shift → ℕ → Quick
set_shifted_form Mov rn rd rm shift amount = quick.SetMovShifted rn rd rm shift amount
set_shifted_form kind rn rd rm shift amount = quick.SetShifted kind rn rd rm shift amount

abbrev pub compare_number_form : ComputeOp → ℕ → ℕ → Bool → Quick
compare_number_form Sub rn value turned = quick.CmpNumber rn value turned
compare_number_form kind rn value turned = quick.CompareNumber kind rn value turned

abbrev pub compare_plain_form : ComputeOp → ℕ → ℕ → Quick
compare_plain_form Sub rn rm = quick.CmpPlain rn rm
compare_plain_form kind rn rm = quick.ComparePlain kind rn rm

-- data processing that writes Rd, where neither Rn nor Rd is r15
abbrev pub compute_shifted : ArmOp → ComputeOp → Bool → ℕ → ℕ → ℕ → Shift → ℕ → Quick
compute_shifted whole kind set rn rd rm shift amount =
    if rm == 15 then quick.Other whole
    else if amount == 0 then
    (if is_lsl shift then (if set then set_plain_form kind rn rd rm else plain_form kind rn rd rm)
    else quick.Other whole)
    else if set then set_shifted_form kind rn rd rm shift amount
    else quick.Shifted kind rn rd rm shift amount

abbrev pub compute_form : ArmOp → ComputeOp → Bool → ℕ → ℕ → Operand → Quick
compute_form whole kind set rn rd (operand.Immediate value turn) =
    if set then set_number_form kind rn rd (rotation value (2 * turn)) (not (turn == 0))
    else number_form kind rn rd (rotation value (2 * turn))
compute_form whole kind set rn rd (operand.Fixed rm shift amount) = compute_shifted whole kind set rn rd rm shift amount
compute_form whole kind set rn rd (operand.ByRegister rm shift rs) = quick.Other whole

-- data processing that writes the flags alone, where Rn isn't r15
abbrev pub compare_shifted : ArmOp → ComputeOp → ℕ → ℕ → Shift → ℕ → Quick
compare_shifted whole kind rn rm shift amount =
    if rm == 15 then quick.Other whole
    else if amount == 0 then (if is_lsl shift then compare_plain_form kind rn rm else quick.Other whole)
    else quick.CompareShifted kind rn rm shift amount

abbrev pub compare_form : ArmOp → ComputeOp → ℕ → Operand → Quick
compare_form whole kind rn (operand.Immediate value turn) =
    compare_number_form kind rn (rotation value (2 * turn)) (not (turn == 0))
compare_form whole kind rn (operand.Fixed rm shift amount) = compare_shifted whole kind rn rm shift amount
compare_form whole kind rn (operand.ByRegister rm shift rs) = quick.Other whole

-- a word or byte transfer by a number; the plainest shape keeps the base and has no r15
abbrev pub plain_transfer : Bool → Bool → ℕ → ℕ → ℕ → Quick
plain_transfer load byte rn rd offset =
    if load then (if byte then quick.LoadByte rn rd offset else quick.LoadWord rn rd offset)
    else if byte then quick.StoreByte rn rd offset
    else quick.StoreWord rn rd offset

abbrev pub general_transfer : Bool → Bool → SingleTransfer → Quick
general_transfer load byte one =
    if load then quick.LoadSingle (if byte then unit.Byte else unit.Word) one
    else quick.StoreSingle (if byte then width.Byte else width.Word) one

abbrev pub number_transfer : Bool → Bool → SingleTransfer → Quick
number_transfer load byte one =
    if one.pre && not one.write && not (one.rn == 15) && not (one.rd == 15)
    then plain_transfer load byte one.rn one.rd (signed_offset one.up one.distance)
    else general_transfer load byte one

abbrev pub half_form : HalfKind → SingleTransfer → Quick
half_form StoreHalf one = quick.StoreSingle width.Half one
half_form LoadHalf one = quick.LoadSingle unit.Half one
half_form LoadSignedByte one = quick.LoadSingle unit.SignedByte one
half_form LoadSignedHalf one = quick.LoadSingle unit.SignedHalf one

-- a block transfer
abbrev pub plain_block : Bool → BlockTransfer → Quick
plain_block load block = if load then quick.LoadPlain (plain_of block) else quick.StorePlain (plain_of block)

abbrev pub general_block : Bool → BlockTransfer → Quick
general_block load block = if load then quick.LoadBlock block else quick.StoreBlock block

abbrev pub block_form : Bool → BlockTransfer → Quick
block_form load block = if is_plain block then plain_block load block else general_block load block

-- the quick form of an operation
unfoldable pub quick_of : ArmOp → Quick
quick_of (op.Compute cond kind set rn rd second) =
    if rn == 15 || rd == 15 then quick.Other (op.Compute cond kind set rn rd second)
    else compute_form (op.Compute cond kind set rn rd second) kind set rn rd second
quick_of (op.Compare cond kind rn second) =
    if rn == 15 then quick.Other (op.Compare cond kind rn second)
    else compare_form (op.Compare cond kind rn second) (compute_op_of kind) rn second
quick_of (op.Transfer cond load byte pre up write rn rd (transfer_offset.Number distance)) =
    number_transfer load byte (record { pre = pre; up = up; write = write; rn = rn; rd = rd; distance = distance })
quick_of (op.Half cond kind pre up write rn rd (half_offset.Number distance)) =
    half_form kind (record { pre = pre; up = up; write = write; rn = rn; rd = rd; distance = distance })
quick_of (op.Block cond load pre up user write rn list) =
    block_form load (record { pre = pre; up = up; user = user; write = write; rn = rn; list = list })
quick_of (op.Branch cond link offset) =
    if link then quick.BranchLink (4 * cast_unsigned w32 offset % 2 ^ 32)
    else quick.Branch (4 * cast_unsigned w32 offset % 2 ^ 32)
quick_of whole = quick.Other whole

-- the quick form of a word's operation
abbrev pub quick_of_word : Option ArmOp → Quick
quick_of_word None = quick.Trap
quick_of_word (Some operation) = quick_of operation

-- A quick form with the commonest operations taken back into their classes: data processing of a register and a number,
-- of two registers, and of a register and a shifted one, without S, with S, and of the flags alone; loads and stores at
-- a base plus an offset that keep the base; and the rest.
pub data General : Type 0 where
  Number : ComputeOp → ℕ → ℕ → ℕ → General
  Plain : ComputeOp → ℕ → ℕ → ℕ → General
  Shifted : ComputeOp → ℕ → ℕ → ℕ → Shift → ℕ → General
  SetNumber : ComputeOp → ℕ → ℕ → ℕ → Bool → General
  SetPlain : ComputeOp → ℕ → ℕ → ℕ → General
  SetShifted : ComputeOp → ℕ → ℕ → ℕ → Shift → ℕ → General
  CompareNumber : ComputeOp → ℕ → ℕ → Bool → General
  ComparePlain : ComputeOp → ℕ → ℕ → General
  CompareShifted : ComputeOp → ℕ → ℕ → Shift → ℕ → General
  Loaded : LoadUnit → ℕ → ℕ → ℕ → General
  Stored : Width → ℕ → ℕ → ℕ → General
  LoadSingle : LoadUnit → SingleTransfer → General
  StoreSingle : Width → SingleTransfer → General
  LoadPlain : PlainBlock → General
  StorePlain : PlainBlock → General
  LoadBlock : BlockTransfer → General
  StoreBlock : BlockTransfer → General
  Branch : ℕ → General
  BranchLink : ℕ → General
  Other : ArmOp → General
  Trap : General

abbrev pub general : Quick → General
general (quick.Number kind rn rd value) = Number kind rn rd value
general (quick.AddNumber rn rd value) = Number Add rn rd value
general (quick.SubNumber rn rd value) = Number Sub rn rd value
general (quick.AndNumber rn rd value) = Number And rn rd value
general (quick.OrrNumber rn rd value) = Number Orr rn rd value
general (quick.BicNumber rn rd value) = Number Bic rn rd value
general (quick.MovNumber rn rd value) = Number Mov rn rd value
general (quick.Plain kind rn rd rm) = Plain kind rn rd rm
general (quick.AddPlain rn rd rm) = Plain Add rn rd rm
general (quick.SubPlain rn rd rm) = Plain Sub rn rd rm
general (quick.AndPlain rn rd rm) = Plain And rn rd rm
general (quick.OrrPlain rn rd rm) = Plain Orr rn rd rm
general (quick.EorPlain rn rd rm) = Plain Eor rn rd rm
general (quick.MovPlain rn rd rm) = Plain Mov rn rd rm
general (quick.RsbPlain rn rd rm) = Plain Rsb rn rd rm
general (quick.MvnPlain rn rd rm) = Plain Mvn rn rd rm
general (quick.Shifted kind rn rd rm shift amount) = Shifted kind rn rd rm shift amount
general (quick.SetNumber kind rn rd value turned) = SetNumber kind rn rd value turned
general (quick.SetAddNumber rn rd value turned) = SetNumber Add rn rd value turned
general (quick.SetSubNumber rn rd value turned) = SetNumber Sub rn rd value turned
general (quick.SetMovNumber rn rd value turned) = SetNumber Mov rn rd value turned
general (quick.SetPlain kind rn rd rm) = SetPlain kind rn rd rm
general (quick.SetAddPlain rn rd rm) = SetPlain Add rn rd rm
general (quick.SetSubPlain rn rd rm) = SetPlain Sub rn rd rm
general (quick.SetAndPlain rn rd rm) = SetPlain And rn rd rm
general (quick.SetEorPlain rn rd rm) = SetPlain Eor rn rd rm
general (quick.SetAdcPlain rn rd rm) = SetPlain Adc rn rd rm
general (quick.SetOrrPlain rn rd rm) = SetPlain Orr rn rd rm
general (quick.SetBicPlain rn rd rm) = SetPlain Bic rn rd rm
general (quick.SetMvnPlain rn rd rm) = SetPlain Mvn rn rd rm
general (quick.SetShifted kind rn rd rm shift amount) = SetShifted kind rn rd rm shift amount
general (quick.SetMovShifted rn rd rm shift amount) = SetShifted Mov rn rd rm shift amount
general (quick.CompareNumber kind rn value turned) = CompareNumber kind rn value turned
general (quick.CmpNumber rn value turned) = CompareNumber Sub rn value turned
general (quick.ComparePlain kind rn rm) = ComparePlain kind rn rm
general (quick.CmpPlain rn rm) = ComparePlain Sub rn rm
general (quick.CompareShifted kind rn rm shift amount) = CompareShifted kind rn rm shift amount
general (quick.LoadWord rn rd offset) = Loaded unit.Word rn rd offset
general (quick.LoadByte rn rd offset) = Loaded unit.Byte rn rd offset
general (quick.StoreWord rn rd offset) = Stored width.Word rn rd offset
general (quick.StoreByte rn rd offset) = Stored width.Byte rn rd offset
general (quick.LoadSingle kind one) = LoadSingle kind one
general (quick.StoreSingle kind one) = StoreSingle kind one
general (quick.LoadPlain plain) = LoadPlain plain
general (quick.StorePlain plain) = StorePlain plain
general (quick.LoadBlock block) = LoadBlock block
general (quick.StoreBlock block) = StoreBlock block
general (quick.Branch distance) = Branch distance
general (quick.BranchLink distance) = BranchLink distance
general (quick.Other whole) = Other whole
general quick.Trap = Trap

-- a quick form whose registers and amounts fit
abbrev pub GeneralFits : General → Type 0
GeneralFits (Number kind rn rd value) = (rn < 16) × (rd < 16)
GeneralFits (Plain kind rn rd rm) = (rn < 16) × (rd < 16) × (rm < 16)
GeneralFits (Shifted kind rn rd rm shift amount) = (rn < 16) × (rd < 16) × (rm < 16) × (0 < amount) × (amount ≤ 31)
GeneralFits (SetNumber kind rn rd value turned) = (rn < 16) × (rd < 16)
GeneralFits (SetPlain kind rn rd rm) = (rn < 16) × (rd < 16) × (rm < 16)
GeneralFits (SetShifted kind rn rd rm shift amount) = (rn < 16) × (rd < 16) × (rm < 16) × (0 < amount) × (amount ≤ 31)
GeneralFits (CompareNumber kind rn value turned) = rn < 16
GeneralFits (ComparePlain kind rn rm) = (rn < 16) × (rm < 16)
GeneralFits (CompareShifted kind rn rm shift amount) = (rn < 16) × (rm < 16) × (0 < amount) × (amount ≤ 31)
GeneralFits (Loaded kind rn rd offset) = (rn < 16) × (rd < 16)
GeneralFits (Stored kind rn rd offset) = (rn < 16) × (rd < 16)
GeneralFits (LoadSingle kind one) = (one.rn < 16) × (one.rd < 16)
GeneralFits (StoreSingle kind one) = (one.rn < 16) × (one.rd < 16)
GeneralFits (LoadPlain plain) = IsPlain plain
GeneralFits (StorePlain plain) = IsPlain plain
GeneralFits (LoadBlock block) = block.rn < 16
GeneralFits (StoreBlock block) = block.rn < 16
GeneralFits (Branch distance) = Unit {0}
GeneralFits (BranchLink distance) = Unit {0}
GeneralFits (Other whole) = Fits whole
GeneralFits Trap = Unit {0}

abbrev pub QuickFits : Quick → Type 0
QuickFits one = GeneralFits (general one)

-- the forms without a quick shape
abbrev pub is_whole : Quick → Bool
is_whole (quick.Other whole) = true
is_whole quick.Trap = true
is_whole _ = false
