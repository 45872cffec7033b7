use Rattle.std.specs.Prelude.{ℕ, Bool, true, false, ◌+◌, ◌*◌, ◌^◌, ◌==◌, if◌then◌else◌}
use Rattle.gba_arm_table.specs.Numbers.{shift_of}
use Rattle.gba_arm_table.specs.declared.operation.ArmOp.{ArmOp}
use Rattle.gba_arm_table.specs.declared.operation.ArmOp.TheVariants as arm
use Rattle.gba_arm_table.specs.declared.operation.CompareOp.{CompareOp}
use Rattle.gba_arm_table.specs.declared.operation.CompareOp.TheVariants.{Tst, Cmp, Cmn}
use Rattle.gba_arm_table.specs.declared.operation.ComputeOp.{ComputeOp}
use Rattle.gba_arm_table.specs.declared.operation.ComputeOp.TheVariants.{And, Eor, Sub, Rsb, Add, Adc, Sbc, Orr, Mov, Bic, Mvn}
use Rattle.gba_arm_table.specs.declared.operation.Condition.TheVariants.{Always}
use Rattle.gba_arm_table.specs.declared.operation.HalfKind.{HalfKind}
use Rattle.gba_arm_table.specs.declared.operation.HalfKind.TheVariants.{StoreHalf, LoadHalf, LoadSignedByte, LoadSignedHalf}
use Rattle.gba_arm_table.specs.declared.operation.HalfOffset.{HalfOffset}
use Rattle.gba_arm_table.specs.declared.operation.HalfOffset.TheVariants as half_offset
use Rattle.gba_arm_table.specs.declared.operation.Operand.{Operand}
use Rattle.gba_arm_table.specs.declared.operation.Operand.TheVariants as operand
use Rattle.gba_arm_table.specs.declared.operation.TransferOffset.{TransferOffset}
use Rattle.gba_arm_table.specs.declared.operation.TransferOffset.TheVariants as transfer_offset
use Rattle.gba_word.specs.declared.kinds.Shift.{Shift}
use Rattle.gba_word.specs.declared.kinds.Shift.TheVariants.{Lsl, Lsr, Asr, Ror}

-- The ARM operation that each Thumb format stands for (GBATEK, THUMB.1 to THUMB.19; ARM Architecture Reference Manual,
-- A7.1). Fields come as the halfword has them. MOV and MVN read no Rn, and MUL neither: it is 0.

-- a register, unshifted
abbrev pub plain : ℕ → Operand
plain register = operand.Fixed register Lsl 0

-- a number below 256
abbrev pub small_number : ℕ → Operand
small_number value = operand.Immediate value 0

-- four times a number below 256: the number turned right by 30
abbrev pub words_number : ℕ → Operand
words_number value = operand.Immediate value 15

-- data processing that makes the flags
abbrev pub processing : ComputeOp → ℕ → ℕ → Operand → ArmOp
processing kind rn rd second = arm.Compute Always kind true rn rd second

-- data processing that keeps the flags
abbrev pub quiet_processing : ComputeOp → ℕ → ℕ → Operand → ArmOp
quiet_processing kind rn rd second = arm.Compute Always kind false rn rd second

-- data processing that makes the flags alone
abbrev pub comparison : CompareOp → ℕ → Operand → ArmOp
comparison kind rn second = arm.Compare Always kind rn second

-- MOVS Rd, Rd shifted by Rs
abbrev pub shift_by_register : Shift → ℕ → ℕ → ArmOp
shift_by_register kind rs rd = processing Mov 0 rd (operand.ByRegister rd kind rs)

-- format 1: MOVS Rd, Rs shifted by a constant, of which 0 is read as in ARM words
abbrev pub shift_by_constant : ℕ → ℕ → ℕ → ℕ → ArmOp
shift_by_constant op o5 rs rd = processing Mov 0 rd (operand.Fixed rs (shift_of op) o5)

-- format 2: ADDS and SUBS Rd, Rs, a number or a register
abbrev pub add_or_subtract : Bool → Bool → ℕ → ℕ → ℕ → ArmOp
add_or_subtract i op x3 rs rd = processing (if op then Sub else Add) rs rd (if i then small_number x3 else plain x3)

-- format 3: MOVS, CMP, ADDS and SUBS of Rd and a number
abbrev pub process_number : ℕ → ℕ → ℕ → ArmOp
process_number op rd n8 =
    if op == 0 then processing Mov 0 rd (small_number n8)
    else if op == 1 then comparison Cmp rd (small_number n8)
    else if op == 2 then processing Add rd rd (small_number n8)
    else processing Sub rd rd (small_number n8)

-- format 4: the sixteen operations of Rd and Rs. NEG is RSBS Rd, Rs, #0, and the multiplier of MUL, which decides its
-- cycles, is the old Rd.
abbrev pub process_register : ℕ → ℕ → ℕ → ArmOp
process_register op rs rd =
    if op == 0 then processing And rd rd (plain rs)
    else if op == 1 then processing Eor rd rd (plain rs)
    else if op == 2 then shift_by_register Lsl rs rd
    else if op == 3 then shift_by_register Lsr rs rd
    else if op == 4 then shift_by_register Asr rs rd
    else if op == 5 then processing Adc rd rd (plain rs)
    else if op == 6 then processing Sbc rd rd (plain rs)
    else if op == 7 then shift_by_register Ror rs rd
    else if op == 8 then comparison Tst rd (plain rs)
    else if op == 9 then processing Rsb rs rd (small_number 0)
    else if op == 10 then comparison Cmp rd (plain rs)
    else if op == 11 then comparison Cmn rd (plain rs)
    else if op == 12 then processing Orr rd rd (plain rs)
    else if op == 13 then arm.Multiply Always false true rd 0 rd rs
    else if op == 14 then processing Bic rd rd (plain rs)
    else processing Mvn 0 rd (plain rs)

-- one of the sixteen registers: the bit H adds 8
abbrev pub full_register : Bool → ℕ → ℕ
full_register h number = if h then number + 8 else number

-- format 5: ADD, CMP, MOV and BX of any of the sixteen registers; ADD and MOV keep the flags
abbrev pub process_full_register : ℕ → ℕ → ℕ → ArmOp
process_full_register op rs rd =
    if op == 0 then quiet_processing Add rd rd (plain rs)
    else if op == 1 then comparison Cmp rd (plain rs)
    else if op == 2 then quiet_processing Mov 0 rd (plain rs)
    else arm.Exchange Always rs

-- LDR and STR of a word or a byte above a base that stays
abbrev pub transfer : Bool → Bool → ℕ → ℕ → TransferOffset → ArmOp
transfer load byte rn rd offset = arm.Transfer Always load byte true true false rn rd offset

-- LDRH, STRH, LDRSB and LDRSH above a base that stays
abbrev pub half_transfer : HalfKind → ℕ → ℕ → HalfOffset → ArmOp
half_transfer kind rn rd offset = arm.Half Always kind true true false rn rd offset

-- format 7: at Rb plus Ro
abbrev pub transfer_by_register : Bool → Bool → ℕ → ℕ → ℕ → ArmOp
transfer_by_register l b ro rb rd = transfer l b rb rd (transfer_offset.Shifted ro Lsl 0)

-- what format 8 moves, by its bits H and S
abbrev pub half_kind : Bool → Bool → HalfKind
half_kind false false = StoreHalf
half_kind false true = LoadSignedByte
half_kind true false = LoadHalf
half_kind true true = LoadSignedHalf

-- format 8: at Rb plus Ro
abbrev pub half_by_register : Bool → Bool → ℕ → ℕ → ℕ → ArmOp
half_by_register h s ro rb rd = half_transfer (half_kind h s) rb rd (half_offset.Plain ro)

-- format 9: at Rb plus so many words, or bytes
abbrev pub transfer_by_number : Bool → Bool → ℕ → ℕ → ℕ → ArmOp
transfer_by_number b l o5 rb rd = transfer l b rb rd (transfer_offset.Number (if b then o5 else 4 * o5))

-- format 10: at Rb plus so many halfwords
abbrev pub half_by_number : Bool → ℕ → ℕ → ℕ → ArmOp
half_by_number l o5 rb rd = half_transfer (if l then LoadHalf else StoreHalf) rb rd (half_offset.Number (2 * o5))

-- format 11: at r13 plus so many words
abbrev pub stack_transfer : Bool → ℕ → ℕ → ArmOp
stack_transfer l rd n8 = transfer l false 13 rd (transfer_offset.Number (4 * n8))

-- format 12 with P: Rd takes r13 plus so many words
abbrev pub stack_address : ℕ → ℕ → ArmOp
stack_address rd n8 = quiet_processing Add 13 rd (words_number n8)

-- format 13: r13 goes up or down by so many words
abbrev pub stack_move : Bool → ℕ → ArmOp
stack_move s n7 = quiet_processing (if s then Sub else Add) 13 13 (words_number n7)

-- LDM and STM of the present mode's registers, with write-back
abbrev pub block_transfer : Bool → Bool → Bool → ℕ → ℕ → ArmOp
block_transfer load pre up rn list = arm.Block Always load pre up false true rn list

-- format 14. With L, POP is LDMIA r13! of the list, and with R of r15, which leaves T. Without L, PUSH is STMDB r13! of
-- the list, and with R of r14.
abbrev pub push_or_pop : Bool → Bool → ℕ → ArmOp
push_or_pop true r list8 = block_transfer true false true 13 (if r then list8 + 2 ^ 15 else list8)
push_or_pop false r list8 = block_transfer false true false 13 (if r then list8 + 2 ^ 14 else list8)

-- format 15: STMIA and LDMIA Rb!
abbrev pub block : Bool → ℕ → ℕ → ArmOp
block l rb list8 = block_transfer l false true rb list8

-- format 17: SWI
abbrev pub software_interrupt : ℕ → ArmOp
software_interrupt n8 = arm.Interrupt Always n8
