use Rattle.std.specs.Prelude.{ℕ, ◌+◌, ◌*◌, ◌/◌, ◌%◌, ◌^◌, Bool, true, false, ◌&&◌, ◌==◌, List, [], ◌∷◌}
use Rattle.std.specs.Int.{cast_unsigned, w32}
use Rattle.gba_arm_table.specs.declared.operation.ArmOp.{ArmOp}
use Rattle.gba_arm_table.specs.declared.operation.ArmOp.TheVariants as op
use Rattle.gba_arm_table.specs.declared.operation.Condition.{Condition}
use Rattle.gba_arm_table.specs.declared.operation.HalfKind.{HalfKind}
use Rattle.gba_arm_table.specs.declared.operation.HalfKind.TheVariants.{StoreHalf, LoadHalf, LoadSignedByte, LoadSignedHalf}
use Rattle.gba_arm_table.specs.declared.operation.HalfOffset.{HalfOffset}
use Rattle.gba_arm_table.specs.declared.operation.HalfOffset.TheVariants as half_offset
use Rattle.gba_arm_table.specs.declared.operation.Operand.{Operand}
use Rattle.gba_arm_table.specs.declared.operation.Operand.TheVariants as operand
use Rattle.gba_arm_table.specs.declared.operation.Source.{Source}
use Rattle.gba_arm_table.specs.declared.operation.Source.TheVariants as source
use Rattle.gba_arm_table.specs.declared.operation.TransferOffset.{TransferOffset}
use Rattle.gba_arm_table.specs.declared.operation.TransferOffset.TheVariants as transfer_offset
use Rattle.gba_arm_table.specs.declared.parts.Part.{Part}
use Rattle.gba_arm_table.specs.Fields.{Bits}
use Rattle.gba_word.specs.Sums.{flag_number}
use Rattle.gba_arm_table.specs.Numbers.{condition_number, compute_number, compare_number, shift_number}

-- The word of each operation as the manual draws it (ARM Architecture Reference Manual, A3 to A5): its parts from bit
-- 31 down, with how many bits each has. Bits that should be one are ones, bits that should be zero are zeros.

abbrev pub part : ℕ → ℕ → Part
part width value = record { width = width; value = value }

-- one bit
abbrev pub flag_part : Bool → Part
flag_part set = part 1 (flag_number set)

abbrev pub condition_part : Condition → Part
condition_part cond = part 4 (condition_number cond)

-- the number of bits that parts have
abbrev pub widths : List Part → ℕ
widths [] = 0
widths (one ∷ rest) = one.width + widths rest

-- the parts side by side: the first one stands above the others
abbrev pub pack : List Part → ℕ
pack [] = 0
pack (one ∷ rest) = one.value % 2 ^ one.width * 2 ^ widths rest + pack rest

-- bits 11 to 0 of data processing (A5.1), and bit 25: whether they are a turned number
abbrev pub operand_parts : Operand → List Part
operand_parts (operand.Immediate value turn) = part 4 turn ∷ part 8 value ∷ []
operand_parts (operand.Fixed rm kind amount) = part 5 amount ∷ part 2 (shift_number kind) ∷ part 1 0 ∷ part 4 rm ∷ []
operand_parts (operand.ByRegister rm kind rs) =
    part 4 rs ∷ part 1 0 ∷ part 2 (shift_number kind) ∷ part 1 1 ∷ part 4 rm ∷ []

abbrev pub is_immediate : Operand → Bool
is_immediate (operand.Immediate value turn) = true
is_immediate (operand.Fixed rm kind amount) = false
is_immediate (operand.ByRegister rm kind rs) = false

-- bits 11 to 0 of MSR (A4.1), and bit 25
abbrev pub source_parts : Source → List Part
source_parts (source.Immediate value turn) = part 4 turn ∷ part 8 value ∷ []
source_parts (source.Plain rm) = part 8 0 ∷ part 4 rm ∷ []

abbrev pub is_immediate_source : Source → Bool
is_immediate_source (source.Immediate value turn) = true
is_immediate_source (source.Plain rm) = false

-- bits 11 to 0 of a word or byte transfer (A5.2), and bit 25: whether they are a register
abbrev pub transfer_parts : TransferOffset → List Part
transfer_parts (transfer_offset.Number value) = part 12 value ∷ []
transfer_parts (transfer_offset.Shifted rm kind amount) =
    part 5 amount ∷ part 2 (shift_number kind) ∷ part 1 0 ∷ part 4 rm ∷ []

abbrev pub is_shifted : TransferOffset → Bool
is_shifted (transfer_offset.Number value) = false
is_shifted (transfer_offset.Shifted rm kind amount) = true

-- bits 11 to 8 and bits 3 to 0 of a halfword transfer (A5.3), and bit 22: whether they are a number
abbrev pub half_high : HalfOffset → ℕ
half_high (half_offset.Number value) = value / 16
half_high (half_offset.Plain rm) = 0

abbrev pub half_low : HalfOffset → ℕ
half_low (half_offset.Number value) = value
half_low (half_offset.Plain rm) = rm

abbrev pub is_number : HalfOffset → Bool
is_number (half_offset.Number value) = true
is_number (half_offset.Plain rm) = false

-- bit 20 and bits 6 and 5 of a halfword transfer (A5.3)
abbrev pub is_load : HalfKind → Bool
is_load StoreHalf = false
is_load LoadHalf = true
is_load LoadSignedByte = true
is_load LoadSignedHalf = true

abbrev pub half_code : HalfKind → ℕ
half_code StoreHalf = 1
half_code LoadHalf = 1
half_code LoadSignedByte = 2
half_code LoadSignedHalf = 3

-- data processing (A3.4): the number of the operation in bits 24 to 21
abbrev pub processing_parts : Condition → ℕ → Bool → ℕ → ℕ → Operand → List Part
processing_parts cond number set rn rd operand =
    condition_part cond ∷ part 2 0 ∷ flag_part (is_immediate operand) ∷ part 4 number ∷ flag_part set ∷ part 4 rn
    ∷ part 4 rd ∷ operand_parts operand

-- the word of an operation, from bit 31 down
abbrev pub diagram : ArmOp → List Part
diagram (op.Exchange cond rm) = condition_part cond ∷ part 8 0x12 ∷ part 12 0xFFF ∷ part 4 1 ∷ part 4 rm ∷ []
diagram (op.Multiply cond accumulate set rd rn rs rm) =
    condition_part cond ∷ part 6 0 ∷ flag_part accumulate ∷ flag_part set ∷ part 4 rd ∷ part 4 rn ∷ part 4 rs
    ∷ part 4 9 ∷ part 4 rm ∷ []
diagram (op.MultiplyLong cond signed accumulate set hi lo rs rm) =
    condition_part cond ∷ part 5 1 ∷ flag_part signed ∷ flag_part accumulate ∷ flag_part set ∷ part 4 hi ∷ part 4 lo
    ∷ part 4 rs ∷ part 4 9 ∷ part 4 rm ∷ []
diagram (op.Swap cond byte rn rd rm) =
    condition_part cond ∷ part 5 2 ∷ flag_part byte ∷ part 2 0 ∷ part 4 rn ∷ part 4 rd ∷ part 4 0 ∷ part 4 9
    ∷ part 4 rm ∷ []
diagram (op.Half cond kind pre up write rn rd offset) =
    condition_part cond ∷ part 3 0 ∷ flag_part pre ∷ flag_part up ∷ flag_part (is_number offset) ∷ flag_part write
    ∷ flag_part (is_load kind) ∷ part 4 rn ∷ part 4 rd ∷ part 4 (half_high offset) ∷ part 1 1
    ∷ part 2 (half_code kind) ∷ part 1 1 ∷ part 4 (half_low offset) ∷ []
diagram (op.ReadStatus cond saved rd) =
    condition_part cond ∷ part 5 2 ∷ flag_part saved ∷ part 2 0 ∷ part 4 15 ∷ part 4 rd ∷ part 12 0 ∷ []
diagram (op.WriteStatus cond saved fields source) =
    condition_part cond ∷ part 2 0 ∷ flag_part (is_immediate_source source) ∷ part 2 2 ∷ flag_part saved ∷ part 2 2
    ∷ part 4 fields ∷ part 4 15 ∷ source_parts source
diagram (op.Compute cond op set rn rd operand) = processing_parts cond (compute_number op) set rn rd operand
diagram (op.Compare cond op rn operand) = processing_parts cond (compare_number op) true rn 0 operand
diagram (op.Transfer cond load byte pre up write rn rd offset) =
    condition_part cond ∷ part 2 1 ∷ flag_part (is_shifted offset) ∷ flag_part pre ∷ flag_part up ∷ flag_part byte
    ∷ flag_part write ∷ flag_part load ∷ part 4 rn ∷ part 4 rd ∷ transfer_parts offset
diagram (op.Block cond load pre up user write rn list) =
    condition_part cond ∷ part 3 4 ∷ flag_part pre ∷ flag_part up ∷ flag_part user ∷ flag_part write ∷ flag_part load
    ∷ part 4 rn ∷ part 16 list ∷ []
diagram (op.Branch cond link offset) =
    condition_part cond ∷ part 3 5 ∷ flag_part link ∷ part 24 (cast_unsigned w32 offset) ∷ []
diagram (op.Interrupt cond comment) = condition_part cond ∷ part 4 15 ∷ part 24 comment ∷ []

-- whether the bits of a word that should be one or zero are, where no field of the operation names them (A4.1, A5.3)
abbrev pub has_manual_half : HalfOffset → Bits → Bool
has_manual_half (half_offset.Number value) bits = true
has_manual_half (half_offset.Plain rm) bits = bits 8 4 == 0

abbrev pub has_manual_source : Source → Bits → Bool
has_manual_source (source.Immediate value turn) bits = true
has_manual_source (source.Plain rm) bits = bits 8 4 == 0

abbrev pub has_manual_bits : ArmOp → Bits → Bool
has_manual_bits (op.Exchange cond rm) bits = bits 8 12 == 0xFFF
has_manual_bits (op.Swap cond byte rn rd rm) bits = bits 8 4 == 0
has_manual_bits (op.Half cond kind pre up write rn rd offset) bits = has_manual_half offset bits
has_manual_bits (op.ReadStatus cond saved rd) bits = bits 16 4 == 15 && bits 0 12 == 0
has_manual_bits (op.WriteStatus cond saved fields source) bits = bits 12 4 == 15 && has_manual_source source bits
has_manual_bits (op.Compare cond op rn operand) bits = bits 12 4 == 0
has_manual_bits _ bits = true
