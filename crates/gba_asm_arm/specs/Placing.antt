-- The operation of an ARM statement at its address.
use Rattle.std.specs.Prelude.{ℕ, ◌+◌, ◌-◌, ◌/◌, ◌%◌, ◌^◌, Bool, true, false, nat_lt, ◌==◌, Option, Some, None, ℤ, pos, negsuc, if◌then◌else◌}
use Rattle.gba_arm_table.specs.declared.operation.ArmOp.{ArmOp}
use Rattle.gba_arm_table.specs.declared.operation.ArmOp.TheVariants as op
use Rattle.gba_arm_table.specs.declared.operation.Condition.{Condition}
use Rattle.gba_arm_table.specs.declared.operation.TransferOffset.TheVariants.{Number}
use Rattle.gba_asm_words.specs.Readers.{Target}
use Rattle.gba_asm_arm.specs.Statement.{ArmStatement, Operation, Branch, Load}

-- where a statement leads, if it leads to a target
abbrev pub target_of : ArmStatement → Option Target
target_of (Operation op) = None
target_of (Branch cond link target) = Some target
target_of (Load cond rd target) = Some target

-- How far a target is from the address that r15 is read as, the statement's own plus 8. It is a number modulo 2 ^ 32,
-- and from 2 ^ 31 on a negative one.
abbrev pub distance : ℕ → ℕ → ℕ
distance address target = (target + (2 ^ 32 - (address + 8) % 2 ^ 32)) % 2 ^ 32

abbrev pub is_forward : ℕ → Bool
is_forward d = nat_lt d (2 ^ 31)

-- so many words, the number of a distance that is a multiple of 4
abbrev pub words_of : ℕ → ℤ
words_of d = if is_forward d then pos (d / 4) else negsuc ((2 ^ 32 - 1 - d) / 4)

abbrev pub branch : Condition → Bool → ℕ → Option ArmOp
branch cond link d = if d % 4 == 0 then Some (op.Branch cond link (words_of d)) else None

-- the word at a distance from r15
abbrev pub load : Condition → ℕ → ℕ → ArmOp
load cond rd d =
    if is_forward d then op.Transfer cond true false true true false 15 rd (Number d)
    else op.Transfer cond true false true false false 15 rd (Number (2 ^ 32 - d))

-- The operation of a statement at this address, whose target is at that one; None where a number has no encoding.
unfoldable pub operation_at : ℕ → ℕ → ArmStatement → Option ArmOp
operation_at address target (Operation op) = op
operation_at address target (Branch cond link _) = branch cond link (distance address target)
operation_at address target (Load cond rd _) = Some (load cond rd (distance address target))
