use Rattle.std.proofs.Common.{ℕ, ◌%◌, ◌<◌, Bool, true, false, arith, rules}
use Rattle.std.proofs.lemmas.Bool.Decides.{nat_tests}
use Rattle.std.specs.Prelude.{IfSome}
use Rattle.gba_terms.specs.Bits.{field}
use Rattle.gba_thumb_table.specs.declared.format.Format.{Format}
use Rattle.gba_thumb_table.specs.declared.format.Format.TheVariants as format
use Rattle.gba_thumb_table.specs.declared.operation.ThumbOp.TheVariants as op
use Rattle.gba_thumb_table.specs.Fields.{format1, format16}
use Rattle.gba_thumb_table.specs.Table.{operation, operation_of}
use Rattle.gba_thumb_table.specs.Limits.{Fits}
use Rattle.gba_thumb_table.proofs.Settling.{Settled, settled-rows}

-- The fields of a halfword fit their bits.

format1-fits : (half : ℕ) → Settled format.Format1 half → Fits (format1 (field half))
format1-fits half s =
    let below : field half 8 8 < 24 = grind (arith, nat_tests) in
    let three : field half 11 2 < 3 = omega arith in
    record { registers = search rules; immediates = (three, (omega arith, tt)); offsets = tt }

format2-fits : (i subtracts : Bool) (x3 rs rd : ℕ) → x3 < 8 → rs < 8 → rd < 8 → Fits (op.Format2 i subtracts x3 rs rd)
format2-fits true subtracts x3 rs rd h1 h2 h3 =
    record { registers = (h2, (h3, tt)); immediates = (h1, tt); offsets = tt }
format2-fits false subtracts x3 rs rd h1 h2 h3 =
    record { registers = (h1, (h2, (h3, tt))); immediates = tt; offsets = tt }

format16-fits : (half : ℕ) → Settled format.Format16 half → Fits (format16 (field half))
format16-fits half s =
    let below : field half 8 8 % 16 < 14 = grind (arith, nat_tests) in
    let fourteen : field half 8 4 < 14 = omega arith in
    record { registers = tt; immediates = (fourteen, tt); offsets = (omega arith, tt) }

operation_of-fits : (f : Format) (half : ℕ) → Settled f half → IfSome (operation_of f (field half)) Fits
operation_of-fits format.Format1 half s = format1-fits half s
operation_of-fits format.Format2 half s = format2-fits _ _ _ _ _ (omega arith) (omega arith) (omega arith)
operation_of-fits format.Format16 half s = format16-fits half s
operation_of-fits format.Undefined half s = tt
operation_of-fits _ half s = record { registers = search rules; immediates = search rules; offsets = search rules }

pub operation-Fits : (half : ℕ) → IfSome (operation half) Fits
unfolding operation
operation-Fits half = operation_of-fits _ half (settled-rows half)
