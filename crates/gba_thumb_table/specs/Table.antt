use Rattle.std.specs.Prelude.{ℕ, ◌==◌, if◌then◌else◌, List, [], ◌∷◌, Option, Some, None, bit_and}
use Rattle.gba_terms.specs.Bits.{field}
use Rattle.gba_arm_table.specs.Fields.{Bits}
use Rattle.gba_thumb_table.specs.declared.operation.ThumbOp.{ThumbOp}
use Rattle.gba_thumb_table.specs.declared.format.Format.{Format}
use Rattle.gba_thumb_table.specs.declared.format.Format.TheVariants as format
use Rattle.gba_thumb_table.specs.Fields.{format1, format2, format3, format4, format5, format6, format7, format8, format9, format10, format11, format12, format13, format14, format15, format16, format17, format18, format19}

-- a row of the table: the halfwords that its mask and value fit, and their format
pub record Row : Type 0 where
  pub mask : ℕ
  pub value : ℕ
  pub format : Format

abbrev pub row : ℕ → ℕ → Format → Row
row mask value format = record { mask = mask; value = value; format = format }

-- The rows in the order in which they are tried (GBATEK, THUMB.1 to THUMB.19). Add and subtract stand
-- in what is left of the shifts; SWI, and the halfwords that have no operation, stand in two conditions of the branch.
unfoldable pub rows : List Row
rows =
    row 0xF800 0x1800 format.Format2
    ∷ row 0xE000 0x0000 format.Format1
    ∷ row 0xE000 0x2000 format.Format3
    ∷ row 0xFC00 0x4000 format.Format4
    ∷ row 0xFC00 0x4400 format.Format5
    ∷ row 0xF800 0x4800 format.Format6
    ∷ row 0xF200 0x5000 format.Format7
    ∷ row 0xF200 0x5200 format.Format8
    ∷ row 0xE000 0x6000 format.Format9
    ∷ row 0xF000 0x8000 format.Format10
    ∷ row 0xF000 0x9000 format.Format11
    ∷ row 0xF000 0xA000 format.Format12
    ∷ row 0xFF00 0xB000 format.Format13
    ∷ row 0xF600 0xB400 format.Format14
    ∷ row 0xF000 0xC000 format.Format15
    ∷ row 0xFF00 0xDF00 format.Format17
    ∷ row 0xFF00 0xDE00 format.Undefined
    ∷ row 0xF000 0xD000 format.Format16
    ∷ row 0xF800 0xE000 format.Format18
    ∷ row 0xF800 0xF000 format.Format19
    ∷ row 0xF800 0xF800 format.Format19
    ∷ []

-- the format of the first row that a halfword fits; undefined where it fits none
abbrev pub format_in : List Row → ℕ → Format
format_in [] half = format.Undefined
format_in (row ∷ rest) half = if bit_and half row.mask == row.value then row.format else format_in rest half

-- the operation of a format, with the fields of its halfword; an undefined halfword has none
abbrev pub operation_of : Format → Bits → Option ThumbOp
operation_of format.Format1 bits = Some (format1 bits)
operation_of format.Format2 bits = Some (format2 bits)
operation_of format.Format3 bits = Some (format3 bits)
operation_of format.Format4 bits = Some (format4 bits)
operation_of format.Format5 bits = Some (format5 bits)
operation_of format.Format6 bits = Some (format6 bits)
operation_of format.Format7 bits = Some (format7 bits)
operation_of format.Format8 bits = Some (format8 bits)
operation_of format.Format9 bits = Some (format9 bits)
operation_of format.Format10 bits = Some (format10 bits)
operation_of format.Format11 bits = Some (format11 bits)
operation_of format.Format12 bits = Some (format12 bits)
operation_of format.Format13 bits = Some (format13 bits)
operation_of format.Format14 bits = Some (format14 bits)
operation_of format.Format15 bits = Some (format15 bits)
operation_of format.Format16 bits = Some (format16 bits)
operation_of format.Format17 bits = Some (format17 bits)
operation_of format.Format18 bits = Some (format18 bits)
operation_of format.Format19 bits = Some (format19 bits)
operation_of format.Undefined bits = None

-- the operation that a halfword is
unfoldable pub operation : ℕ → Option ThumbOp
operation half = operation_of (format_in rows half) (field half)
