use Rattle.std.specs.Prelude.{ℕ, Result, Ok, Err, not, if◌then◌else◌}
use Rattle.gba_arm_table.specs.declared.encoding.EncodeError.{EncodeError}
use Rattle.gba_arm_table.specs.declared.encoding.EncodeError.TheVariants.{Immediate, Offset, Register}
use Rattle.gba_arm_table.specs.Limits.{within}
use Rattle.gba_arm_table.specs.Diagrams.{pack}
use Rattle.gba_thumb_table.specs.declared.operation.ThumbOp.{ThumbOp}
use Rattle.gba_thumb_table.specs.Limits.{registers_of, immediates_of, offsets_of}
use Rattle.gba_thumb_table.specs.Diagrams.{diagram}

-- the halfword that encodes an operation, or the first refusal
unfoldable pub encoding : ThumbOp → Result ℕ EncodeError
encoding op =
    if not (within (registers_of op)) then Err Register
    else if not (within (immediates_of op)) then Err Immediate
    else if not (within (offsets_of op)) then Err Offset
    else Ok (pack (diagram op))
