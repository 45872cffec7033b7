use Rattle.std.specs.Prelude.{Bool, true, false}
use Rattle.gba_arm_table.specs.declared.operation.ArmOp.{ArmOp}
use Rattle.gba_arm_table.specs.declared.operation.ArmOp.TheVariants as op

-- The classes of the operations, for functions that take one class alone. Only private functions cite these.

abbrev pub is_multiply : ArmOp → Bool
is_multiply (op.Multiply cond accumulate set rd rn rs rm) = true
is_multiply _ = false

abbrev pub is_long_multiply : ArmOp → Bool
is_long_multiply (op.MultiplyLong cond signed accumulate set hi lo rs rm) = true
is_long_multiply _ = false

abbrev pub is_swap : ArmOp → Bool
is_swap (op.Swap cond byte rn rd rm) = true
is_swap _ = false

abbrev pub is_half : ArmOp → Bool
is_half (op.Half cond kind pre up write rn rd offset) = true
is_half _ = false

abbrev pub is_status_move : ArmOp → Bool
is_status_move (op.ReadStatus cond saved rd) = true
is_status_move (op.WriteStatus cond saved fields source) = true
is_status_move _ = false

-- data processing, whether it writes a register or the flags alone
abbrev pub is_processing : ArmOp → Bool
is_processing (op.Compute cond kind set rn rd operand) = true
is_processing (op.Compare cond kind rn operand) = true
is_processing _ = false

abbrev pub is_transfer : ArmOp → Bool
is_transfer (op.Transfer cond load byte pre up write rn rd offset) = true
is_transfer _ = false

abbrev pub is_block : ArmOp → Bool
is_block (op.Block cond load pre up user write rn list) = true
is_block _ = false
