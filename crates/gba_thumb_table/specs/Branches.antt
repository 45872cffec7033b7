use Rattle.std.specs.Prelude.{◌==◌, if◌then◌else◌}
use Rattle.gba_arm_table.specs.Fields.{Bits, flag}
use Rattle.gba_thumb_table.specs.declared.format.Format.{Format}
use Rattle.gba_thumb_table.specs.declared.format.Format.TheVariants as format

-- The table once more, as a decision by bits 15 to 8. Only private functions cite this file; that it is the table is
-- proved.

-- bits 15 to 12 are 4
abbrev pub register_format : Bits → Format
register_format bits =
    if flag bits 11 then format.Format6
    else if flag bits 10 then format.Format5
    else format.Format4

-- bits 15 to 12 are 11
abbrev pub stack_format : Bits → Format
stack_format bits =
    if bits 8 4 == 0 then format.Format13
    else if bits 9 2 == 2 then format.Format14
    else format.Undefined

-- bits 15 to 12 are 13
abbrev pub condition_format : Bits → Format
condition_format bits =
    if bits 8 4 == 15 then format.Format17
    else if bits 8 4 == 14 then format.Undefined
    else format.Format16

abbrev pub branch_format : Bits → Format
branch_format bits =
    if bits 12 4 == 0 then format.Format1
    else if bits 12 4 == 1 then (if flag bits 11 then format.Format2 else format.Format1)
    else if bits 12 4 == 2 then format.Format3
    else if bits 12 4 == 3 then format.Format3
    else if bits 12 4 == 4 then register_format bits
    else if bits 12 4 == 5 then (if flag bits 9 then format.Format8 else format.Format7)
    else if bits 12 4 == 6 then format.Format9
    else if bits 12 4 == 7 then format.Format9
    else if bits 12 4 == 8 then format.Format10
    else if bits 12 4 == 9 then format.Format11
    else if bits 12 4 == 10 then format.Format12
    else if bits 12 4 == 11 then stack_format bits
    else if bits 12 4 == 12 then format.Format15
    else if bits 12 4 == 13 then condition_format bits
    else if bits 12 4 == 14 then (if flag bits 11 then format.Undefined else format.Format18)
    else format.Format19
