use Rattle.std.specs.Prelude.{◌==◌, if◌then◌else◌}
use Rattle.gba_arm_table.specs.declared.format.Format.{Format}
use Rattle.gba_arm_table.specs.declared.format.Format.TheVariants as format
use Rattle.gba_arm_table.specs.Fields.{Bits, flag, is_compare}

-- The table once more, as a decision by bits 27 to 20 and 7 to 4. Only private functions cite this file; that it is
-- the table is proved.

-- with bits 7 and 4 set: multiplies, SWP and halfword transfers
abbrev pub extension_format : Bits → Format
extension_format bits =
    if bits 5 2 == 0 then
    (if bits 23 2 == 0 then (if flag bits 22 then format.Undefined else format.Multiply)
    else if bits 23 2 == 1 then format.MultiplyLong
    else if bits 23 2 == 2 then (if bits 20 2 == 0 then format.Swap else format.Undefined)
    else format.Undefined)
    else if bits 5 2 == 1 then format.HalfTransfer
    else if flag bits 20 then (if bits 5 2 == 2 then format.SignedByteLoad else format.SignedHalfLoad)
    else format.Undefined

-- TST to CMN without S: MRS, MSR and BX
abbrev pub status : Bits → Format
status bits =
    if bits 4 4 == 0 then (if flag bits 21 then format.StatusWriteRegister else format.StatusRead)
    else if bits 4 4 == 1 then (if bits 21 4 == 9 then format.Exchange else format.Undefined)
    else format.Undefined

-- bits 27 to 25 are 0
abbrev pub registers : Bits → Format
registers bits =
    if flag bits 4 then
    (if flag bits 7 then extension_format bits
    else if is_compare bits then (if flag bits 20 then format.ProcessingByRegister else status bits)
    else format.ProcessingByRegister)
    else if is_compare bits then (if flag bits 20 then format.ProcessingFixed else status bits)
    else format.ProcessingFixed

-- bits 27 to 25 are 1
abbrev pub immediates : Bits → Format
immediates bits =
    if is_compare bits then
    (if flag bits 20 then format.ProcessingImmediate
    else if flag bits 21 then format.StatusWriteImmediate
    else format.Undefined)
    else format.ProcessingImmediate

abbrev pub branch_format : Bits → Format
branch_format bits =
    if bits 25 3 == 0 then registers bits
    else if bits 25 3 == 1 then immediates bits
    else if bits 25 3 == 2 then format.TransferNumber
    else if bits 25 3 == 3 then (if flag bits 4 then format.Undefined else format.TransferShifted)
    else if bits 25 3 == 4 then format.Block
    else if bits 25 3 == 5 then format.Branch
    else if bits 25 3 == 6 then format.Undefined
    else if flag bits 24 then format.Interrupt
    else format.Undefined
