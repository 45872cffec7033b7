use Rattle.std.specs.Prelude.{ℕ, Result, Ok, Err, not, if◌then◌else◌}
use Rattle.gba_arm_table.specs.declared.encoding.EncodeError.{EncodeError}
use Rattle.gba_arm_table.specs.declared.encoding.EncodeError.TheVariants.{Immediate, Offset, Register}
use Rattle.gba_arm_table.specs.declared.operation.ArmOp.{ArmOp}
use Rattle.gba_arm_table.specs.Limits.{within, registers_of, immediates_of, offsets_of}
use Rattle.gba_arm_table.specs.Diagrams.{pack, diagram}

-- the word that encodes an operation, or the first refusal
unfoldable pub encoding : ArmOp → Result ℕ EncodeError
encoding op =
    if not (within (registers_of op)) then Err Register
    else if not (within (immediates_of op)) then Err Immediate
    else if not (within (offsets_of op)) then Err Offset
    else Ok (pack (diagram op))
