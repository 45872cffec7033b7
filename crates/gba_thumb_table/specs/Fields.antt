use Rattle.gba_arm_table.specs.Fields.{Bits, flag}
use Rattle.gba_thumb_table.specs.declared.operation.ThumbOp.{ThumbOp}
use Rattle.gba_thumb_table.specs.declared.operation.ThumbOp.TheVariants as op

-- How the halfword of each format is read (GBATEK, THUMB.1 to THUMB.19): `bits low width` is the number in the
-- `width` bits from bit `low` up.

-- move shifted register: Op in bits 12 and 11, Offset5 in 10 to 6, Rs in 5 to 3, Rd in 2 to 0
abbrev pub format1 : Bits → ThumbOp
format1 bits = op.Format1 (bits 11 2) (bits 6 5) (bits 3 3) (bits 0 3)

-- add and subtract: I in bit 10, Op in bit 9, Rn or Offset3 in 8 to 6, Rs in 5 to 3, Rd in 2 to 0
abbrev pub format2 : Bits → ThumbOp
format2 bits = op.Format2 (flag bits 10) (flag bits 9) (bits 6 3) (bits 3 3) (bits 0 3)

-- move, compare, add and subtract immediate: Op in bits 12 and 11, Rd in 10 to 8, Offset8 in 7 to 0
abbrev pub format3 : Bits → ThumbOp
format3 bits = op.Format3 (bits 11 2) (bits 8 3) (bits 0 8)

-- ALU operations: Op in bits 9 to 6, Rs in 5 to 3, Rd in 2 to 0
abbrev pub format4 : Bits → ThumbOp
format4 bits = op.Format4 (bits 6 4) (bits 3 3) (bits 0 3)

-- high register operations and BX: Op in bits 9 and 8, H1 in bit 7, H2 in bit 6, Rs in 5 to 3, Rd in 2 to 0
abbrev pub format5 : Bits → ThumbOp
format5 bits = op.Format5 (bits 8 2) (flag bits 7) (flag bits 6) (bits 3 3) (bits 0 3)

-- load relative to the PC: Rd in bits 10 to 8, Word8 in 7 to 0
abbrev pub format6 : Bits → ThumbOp
format6 bits = op.Format6 (bits 8 3) (bits 0 8)

-- load and store with a register offset: L in bit 11, B in bit 10, Ro in 8 to 6, Rb in 5 to 3, Rd in 2 to 0
abbrev pub format7 : Bits → ThumbOp
format7 bits = op.Format7 (flag bits 11) (flag bits 10) (bits 6 3) (bits 3 3) (bits 0 3)

-- load and store sign-extended byte and halfword: H in bit 11, S in bit 10, Ro in 8 to 6, Rb in 5 to 3, Rd in 2 to 0
abbrev pub format8 : Bits → ThumbOp
format8 bits = op.Format8 (flag bits 11) (flag bits 10) (bits 6 3) (bits 3 3) (bits 0 3)

-- load and store with an immediate offset: B in bit 12, L in bit 11, Offset5 in 10 to 6, Rb in 5 to 3, Rd in 2 to 0
abbrev pub format9 : Bits → ThumbOp
format9 bits = op.Format9 (flag bits 12) (flag bits 11) (bits 6 5) (bits 3 3) (bits 0 3)

-- load and store halfword: L in bit 11, Offset5 in 10 to 6, Rb in 5 to 3, Rd in 2 to 0
abbrev pub format10 : Bits → ThumbOp
format10 bits = op.Format10 (flag bits 11) (bits 6 5) (bits 3 3) (bits 0 3)

-- load and store relative to r13: L in bit 11, Rd in 10 to 8, Word8 in 7 to 0
abbrev pub format11 : Bits → ThumbOp
format11 bits = op.Format11 (flag bits 11) (bits 8 3) (bits 0 8)

-- load address: SP in bit 11, Rd in 10 to 8, Word8 in 7 to 0
abbrev pub format12 : Bits → ThumbOp
format12 bits = op.Format12 (flag bits 11) (bits 8 3) (bits 0 8)

-- add an offset to r13: S in bit 7, SWord7 in 6 to 0
abbrev pub format13 : Bits → ThumbOp
format13 bits = op.Format13 (flag bits 7) (bits 0 7)

-- push and pop: L in bit 11, R in bit 8, Rlist in 7 to 0
abbrev pub format14 : Bits → ThumbOp
format14 bits = op.Format14 (flag bits 11) (flag bits 8) (bits 0 8)

-- load and store multiple: L in bit 11, Rb in 10 to 8, Rlist in 7 to 0
abbrev pub format15 : Bits → ThumbOp
format15 bits = op.Format15 (flag bits 11) (bits 8 3) (bits 0 8)

-- conditional branch: Cond in bits 11 to 8, SOffset8 in 7 to 0
abbrev pub format16 : Bits → ThumbOp
format16 bits = op.Format16 (bits 8 4) (bits 0 8)

-- software interrupt: Value8 in bits 7 to 0
abbrev pub format17 : Bits → ThumbOp
format17 bits = op.Format17 (bits 0 8)

-- unconditional branch: Offset11 in bits 10 to 0
abbrev pub format18 : Bits → ThumbOp
format18 bits = op.Format18 (bits 0 11)

-- long branch with link: H in bit 11, Offset in 10 to 0
abbrev pub format19 : Bits → ThumbOp
format19 bits = op.Format19 (flag bits 11) (bits 0 11)
