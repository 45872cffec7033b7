use Rattle.std.proofs.Common.{ℕ, ◌+◌, ◌*◌, ◌-◌, ◌^◌, ◌<◌, arith, rules, Bool, true, false}
use Rattle.std.specs.Prelude.{IfSome, if◌then◌else◌, nat_lt, pos, negsuc}
use Rattle.gba_terms.specs.Bits.{field}
use Rattle.gba_arm_table.specs.declared.format.Format.{Format}
use Rattle.gba_arm_table.specs.declared.format.Format.TheVariants as format
use Rattle.gba_arm_table.specs.declared.operation.HalfKind.{HalfKind}
use Rattle.gba_arm_table.specs.declared.operation.HalfOffset.TheVariants as half_offset
use Rattle.gba_arm_table.specs.declared.operation.Operand.{Operand}
use Rattle.gba_arm_table.specs.declared.operation.ArmOp.{ArmOp}
use Rattle.gba_arm_table.specs.Fields.{half, compare, compute, processing}
use Rattle.gba_arm_table.specs.Table.{operation, operation_of}
use Rattle.gba_arm_table.specs.Limits.{Fits, Within, half_registers, half_offsets, operand_registers, operand_immediates, distance}

half_offset-within : (b : Bool) (high low : ℕ) → high < 16 → low < 16
    → Within (half_registers (if b then half_offset.Number (high * 16 + low) else half_offset.Plain low))
    × Within (half_offsets (if b then half_offset.Number (high * 16 + low) else half_offset.Plain low))
half_offset-within true high low h l = (tt, search rules)
half_offset-within false high low h l = (search rules, tt)

half-fits : (kind : HalfKind) (word : ℕ) → Fits (half kind (field word))
half-fits kind word =
    let offset = half_offset-within _ (field word 8 4) (field word 0 4) (omega arith) (omega arith) in
    record { registers = (omega arith, (omega arith, offset.0)); immediates = tt; offsets = offset.1 }

either-fits : (b : Bool) (first second : ArmOp) → Fits first → Fits second → Fits (if b then first else second)
either-fits true first second one other = one
either-fits false first second one other = other

processing-fits : (operand : Operand) → Within (operand_registers operand) → Within (operand_immediates operand)
    → (word : ℕ) → Fits (processing operand (field word))
processing-fits operand registers immediates word =
    either-fits _ (compare operand (field word)) (compute operand (field word))
    (record { registers = (omega arith, registers); immediates = immediates; offsets = tt })
    (record { registers = (omega arith, (omega arith, registers)); immediates = immediates; offsets = tt })

distance-signed : (n : ℕ) → n < 2 ^ 24
    → distance (if nat_lt n (2 ^ 23) then pos n else negsuc (2 ^ 24 - 1 - n)) < 2 ^ 23
distance-signed n small = grind arith

-- the fields of a word fit their bits
pub operation_of-fits : (f : Format) (word : ℕ) → IfSome (operation_of f (field word)) Fits
operation_of-fits format.HalfTransfer word = half-fits _ word
operation_of-fits format.SignedByteLoad word = half-fits _ word
operation_of-fits format.SignedHalfLoad word = half-fits _ word
operation_of-fits format.ProcessingByRegister word = processing-fits _ (search rules) tt word
operation_of-fits format.ProcessingFixed word = processing-fits _ (search rules) (search rules) word
operation_of-fits format.ProcessingImmediate word = processing-fits _ tt (search rules) word
operation_of-fits format.Branch word =
    record { registers = tt; immediates = tt; offsets = (distance-signed (field word 0 24) (omega arith), tt) }
operation_of-fits format.Undefined word = tt
operation_of-fits _ word = record { registers = search rules; immediates = search rules; offsets = search rules }

pub operation-Fits : (word : ℕ) → IfSome (operation word) Fits
unfolding operation
operation-Fits word = operation_of-fits _ word
