use Rattle.std.specs.Prelude.{ℕ, ◌==◌, if◌then◌else◌, List, [], ◌∷◌, Option, Some, None, bit_and}
use Rattle.gba_terms.specs.Bits.{field}
use Rattle.gba_arm_table.specs.declared.operation.ArmOp.{ArmOp}
use Rattle.gba_arm_table.specs.declared.operation.HalfKind.TheVariants.{LoadSignedByte, LoadSignedHalf}
use Rattle.gba_arm_table.specs.declared.format.Format.{Format}
use Rattle.gba_arm_table.specs.declared.format.Format.TheVariants as format
use Rattle.gba_arm_table.specs.Fields.{Bits, exchange, multiply, multiply_long, swap, half, unsigned_half_kind, read_status, write_status, plain_source, immediate_source, processing, by_register, fixed, immediate, transfer, number_offset, shifted_offset, block, branch, interrupt}

-- a row of the table: the words that its mask and value fit, and their format
pub record Row : Type 0 where
  pub mask : ℕ
  pub value : ℕ
  pub format : Format

abbrev pub row : ℕ → ℕ → Format → Row
row mask value format = record { mask = mask; value = value; format = format }

-- The twenty rows, in the order in which they are tried (ARM Architecture Reference Manual, A3.1, for version 4T). No
-- mask has the condition, bits 31 to 28. Of bits that should be zero or one, BX, MRS and MSR by a register have bits 7
-- to 4 in their masks, which part them from each other; the other masks leave such bits out.
unfoldable pub rows : List Row
rows =
    row 0x0FF000F0 0x01200010 format.Exchange
    ∷ row 0x0FC000F0 0x00000090 format.Multiply
    ∷ row 0x0F8000F0 0x00800090 format.MultiplyLong
    ∷ row 0x0FB000F0 0x01000090 format.Swap
    ∷ row 0x0E0000F0 0x000000B0 format.HalfTransfer
    ∷ row 0x0E1000F0 0x001000D0 format.SignedByteLoad
    ∷ row 0x0E1000F0 0x001000F0 format.SignedHalfLoad
    ∷ row 0x0E000090 0x00000090 format.Undefined
    ∷ row 0x0FB000F0 0x01000000 format.StatusRead
    ∷ row 0x0FB000F0 0x01200000 format.StatusWriteRegister
    ∷ row 0x0FB00000 0x03200000 format.StatusWriteImmediate
    ∷ row 0x0D900000 0x01000000 format.Undefined
    ∷ row 0x0E000090 0x00000010 format.ProcessingByRegister
    ∷ row 0x0E000010 0x00000000 format.ProcessingFixed
    ∷ row 0x0E000000 0x02000000 format.ProcessingImmediate
    ∷ row 0x0E000000 0x04000000 format.TransferNumber
    ∷ row 0x0E000010 0x06000000 format.TransferShifted
    ∷ row 0x0E000000 0x08000000 format.Block
    ∷ row 0x0E000000 0x0A000000 format.Branch
    ∷ row 0x0F000000 0x0F000000 format.Interrupt
    ∷ []

-- the format of the first row that a word fits; undefined where it fits none
abbrev pub format_in : List Row → ℕ → Format
format_in [] word = format.Undefined
format_in (row ∷ rest) word = if bit_and word row.mask == row.value then row.format else format_in rest word

-- the operation of a format, with the fields of its word; an undefined word has none
abbrev pub operation_of : Format → Bits → Option ArmOp
operation_of format.Exchange bits = Some (exchange bits)
operation_of format.Multiply bits = Some (multiply bits)
operation_of format.MultiplyLong bits = Some (multiply_long bits)
operation_of format.Swap bits = Some (swap bits)
operation_of format.HalfTransfer bits = Some (half (unsigned_half_kind bits) bits)
operation_of format.SignedByteLoad bits = Some (half LoadSignedByte bits)
operation_of format.SignedHalfLoad bits = Some (half LoadSignedHalf bits)
operation_of format.StatusRead bits = Some (read_status bits)
operation_of format.StatusWriteRegister bits = Some (write_status (plain_source bits) bits)
operation_of format.StatusWriteImmediate bits = Some (write_status (immediate_source bits) bits)
operation_of format.ProcessingByRegister bits = Some (processing (by_register bits) bits)
operation_of format.ProcessingFixed bits = Some (processing (fixed bits) bits)
operation_of format.ProcessingImmediate bits = Some (processing (immediate bits) bits)
operation_of format.TransferNumber bits = Some (transfer (number_offset bits) bits)
operation_of format.TransferShifted bits = Some (transfer (shifted_offset bits) bits)
operation_of format.Block bits = Some (block bits)
operation_of format.Branch bits = Some (branch bits)
operation_of format.Interrupt bits = Some (interrupt bits)
operation_of format.Undefined bits = None

-- the operation that a word is
unfoldable pub operation : ℕ → Option ArmOp
operation word = operation_of (format_in rows word) (field word)
