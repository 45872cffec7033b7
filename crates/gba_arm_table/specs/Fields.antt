use Rattle.std.specs.Prelude.{ℕ, ◌+◌, ◌*◌, ◌/◌, ◌==◌, Bool, if◌then◌else◌}
use Rattle.gba_arm_table.specs.declared.operation.ArmOp.{ArmOp}
use Rattle.gba_arm_table.specs.declared.operation.ArmOp.TheVariants as op
use Rattle.gba_arm_table.specs.declared.operation.Condition.{Condition}
use Rattle.gba_arm_table.specs.declared.operation.HalfKind.{HalfKind}
use Rattle.gba_arm_table.specs.declared.operation.HalfKind.TheVariants.{StoreHalf, LoadHalf}
use Rattle.gba_arm_table.specs.declared.operation.HalfOffset.{HalfOffset}
use Rattle.gba_arm_table.specs.declared.operation.HalfOffset.TheVariants as half_offset
use Rattle.gba_arm_table.specs.declared.operation.Operand.{Operand}
use Rattle.gba_arm_table.specs.declared.operation.Operand.TheVariants as operand
use Rattle.gba_arm_table.specs.declared.operation.Source.{Source}
use Rattle.gba_arm_table.specs.declared.operation.Source.TheVariants as source
use Rattle.gba_arm_table.specs.declared.operation.TransferOffset.{TransferOffset}
use Rattle.gba_arm_table.specs.declared.operation.TransferOffset.TheVariants as transfer_offset
use Rattle.gba_arm_table.specs.Numbers.{condition_of, compute_of, compare_of, shift_of, signed_of}

-- How a word is read: `bits low width` is the number in the `width` bits from bit `low` up.
abbrev pub Bits : Type 0
Bits = ℕ → ℕ → ℕ

-- whether the bit is set
abbrev pub flag : Bits → ℕ → Bool
flag bits place = bits place 1 == 1

-- bits 31 to 28 (ARM Architecture Reference Manual, A3.2; the sections below are of the same manual)
abbrev pub condition : Bits → Condition
condition bits = condition_of (bits 28 4)

-- BX (A4.1): Rm in bits 3 to 0
abbrev pub exchange : Bits → ArmOp
exchange bits = op.Exchange (condition bits) (bits 0 4)

-- MUL, MLA (A4.1): A in bit 21, S in bit 20, Rd in bits 19 to 16, Rn in 15 to 12, Rs in 11 to 8, Rm in 3 to 0
abbrev pub multiply : Bits → ArmOp
multiply bits = op.Multiply (condition bits) (flag bits 21) (flag bits 20) (bits 16 4) (bits 12 4) (bits 8 4) (bits 0 4)

-- UMULL, UMLAL, SMULL, SMLAL (A4.1): signed in bit 22, A in bit 21, S in bit 20, RdHi in bits 19 to 16, RdLo in
-- 15 to 12, Rs in 11 to 8, Rm in 3 to 0
abbrev pub multiply_long : Bits → ArmOp
multiply_long bits =
    op.MultiplyLong (condition bits) (flag bits 22) (flag bits 21) (flag bits 20)
    (bits 16 4) (bits 12 4) (bits 8 4) (bits 0 4)

-- SWP, SWPB (A4.1): B in bit 22, Rn in bits 19 to 16, Rd in 15 to 12, Rm in 3 to 0
abbrev pub swap : Bits → ArmOp
swap bits = op.Swap (condition bits) (flag bits 22) (bits 16 4) (bits 12 4) (bits 0 4)

-- the offset of a halfword transfer (A5.3): with bit 22 the number in bits 11 to 8 and 3 to 0, else Rm
abbrev pub half_offset_of : Bits → HalfOffset
half_offset_of bits =
    if flag bits 22 then half_offset.Number (bits 8 4 * 16 + bits 0 4) else half_offset.Plain (bits 0 4)

-- LDRH, STRH, LDRSB, LDRSH (A5.3): P in bit 24, U in bit 23, W in bit 21, Rn in bits 19 to 16, Rd in 15 to 12
abbrev pub half : HalfKind → Bits → ArmOp
half kind bits =
    op.Half (condition bits) kind (flag bits 24) (flag bits 23) (flag bits 21) (bits 16 4) (bits 12 4)
    (half_offset_of bits)

-- an unsigned halfword: bit 20 loads
abbrev pub unsigned_half_kind : Bits → HalfKind
unsigned_half_kind bits = if flag bits 20 then LoadHalf else StoreHalf

-- MRS (A4.1): R in bit 22, Rd in bits 15 to 12
abbrev pub read_status : Bits → ArmOp
read_status bits = op.ReadStatus (condition bits) (flag bits 22) (bits 12 4)

-- MSR (A4.1): R in bit 22, the mask of fields in bits 19 to 16
abbrev pub write_status : Source → Bits → ArmOp
write_status source bits = op.WriteStatus (condition bits) (flag bits 22) (bits 16 4) source

-- what MSR writes (A4.1): Rm in bits 3 to 0; bits 7 to 0 turned right by twice bits 11 to 8
abbrev pub plain_source : Bits → Source
plain_source bits = source.Plain (bits 0 4)

abbrev pub immediate_source : Bits → Source
immediate_source bits = source.Immediate (bits 0 8) (bits 8 4)

-- whether bits 24 to 21 are one of 8 to 11, TST to CMN
abbrev pub is_compare : Bits → Bool
is_compare bits = bits 21 4 / 4 == 2

-- data processing that writes the flags alone (A3.4): the operation in bits 24 to 21, Rn in bits 19 to 16
abbrev pub compare : Operand → Bits → ArmOp
compare operand bits = op.Compare (condition bits) (compare_of (bits 21 4)) (bits 16 4) operand

-- data processing that writes Rd (A3.4): the operation in bits 24 to 21, S in bit 20, Rn in bits 19 to 16, Rd in
-- 15 to 12
abbrev pub compute : Operand → Bits → ArmOp
compute operand bits =
    op.Compute (condition bits) (compute_of (bits 21 4)) (flag bits 20) (bits 16 4) (bits 12 4) operand

abbrev pub processing : Operand → Bits → ArmOp
processing operand bits = if is_compare bits then compare operand bits else compute operand bits

-- the shifter operands (A5.1): Rm shifted by Rs; Rm shifted by bits 11 to 7; bits 7 to 0 turned right by twice
-- bits 11 to 8. The kind of shift is in bits 6 and 5.
abbrev pub by_register : Bits → Operand
by_register bits = operand.ByRegister (bits 0 4) (shift_of (bits 5 2)) (bits 8 4)

abbrev pub fixed : Bits → Operand
fixed bits = operand.Fixed (bits 0 4) (shift_of (bits 5 2)) (bits 7 5)

abbrev pub immediate : Bits → Operand
immediate bits = operand.Immediate (bits 0 8) (bits 8 4)

-- LDR, STR, LDRB, STRB (A5.2): P in bit 24, U in bit 23, B in bit 22, W in bit 21, L in bit 20, Rn in bits 19 to
-- 16, Rd in 15 to 12
abbrev pub transfer : TransferOffset → Bits → ArmOp
transfer offset bits =
    op.Transfer (condition bits) (flag bits 20) (flag bits 22) (flag bits 24) (flag bits 23) (flag bits 21)
    (bits 16 4) (bits 12 4) offset

-- the offsets of word and byte transfers (A5.2): bits 11 to 0; Rm shifted by bits 11 to 7
abbrev pub number_offset : Bits → TransferOffset
number_offset bits = transfer_offset.Number (bits 0 12)

abbrev pub shifted_offset : Bits → TransferOffset
shifted_offset bits = transfer_offset.Shifted (bits 0 4) (shift_of (bits 5 2)) (bits 7 5)

-- LDM, STM (A5.4): P in bit 24, U in bit 23, S in bit 22, W in bit 21, L in bit 20, Rn in bits 19 to 16, the list
-- in bits 15 to 0
abbrev pub block : Bits → ArmOp
block bits =
    op.Block (condition bits) (flag bits 20) (flag bits 24) (flag bits 23) (flag bits 22) (flag bits 21)
    (bits 16 4) (bits 0 16)

-- B, BL (A4.1): L in bit 24, the signed number of words in bits 23 to 0
abbrev pub branch : Bits → ArmOp
branch bits = op.Branch (condition bits) (flag bits 24) (signed_of (bits 0 24))

-- SWI (A4.1): the comment in bits 23 to 0
abbrev pub interrupt : Bits → ArmOp
interrupt bits = op.Interrupt (condition bits) (bits 0 24)
