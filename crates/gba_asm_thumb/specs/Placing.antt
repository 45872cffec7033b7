-- The operations of a Thumb statement at its address.
use Rattle.std.specs.Prelude.{ℕ, ◌+◌, ◌-◌, ◌/◌, ◌%◌, ◌^◌, Bool, true, false, nat_lt, ◌&&◌, ◌||◌, ◌==◌, Option, Some, None, option_map, if◌then◌else◌}
use Rattle.gba_thumb_table.specs.declared.operation.ThumbOp.TheVariants.{Format16, Format18, Format19}
use Rattle.gba_asm_words.specs.Readers.{Target}
use Rattle.gba_asm_thumb.specs.declared.placing.ThumbOps.{ThumbOps}
use Rattle.gba_asm_thumb.specs.declared.placing.ThumbOps.TheVariants.{One, Two}
use Rattle.gba_asm_thumb.specs.Statement.{ThumbStatement, Operation, Branch, BranchIf, Call}

-- where a statement leads, if it leads to a target
abbrev pub target_of : ThumbStatement → Option Target
target_of (Operation op) = None
target_of (Branch target) = Some target
target_of (BranchIf cond target) = Some target
target_of (Call target) = Some target

-- the bytes of a statement
abbrev pub size_of : ThumbStatement → ℕ
size_of (Operation op) = 2
size_of (Branch target) = 2
size_of (BranchIf cond target) = 2
size_of (Call target) = 4

-- How far a target is from the statement's own address plus 4. It is a number modulo 2 ^ 32, and from 2 ^ 31 on a
-- negative one.
abbrev pub distance : ℕ → ℕ → ℕ
distance address target = (target + (2 ^ 32 - (address + 4) % 2 ^ 32)) % 2 ^ 32

-- whether a distance in bytes is from -reach to reach - 1
abbrev pub is_within : ℕ → ℕ → Bool
is_within reach d = nat_lt d reach || nat_lt (2 ^ 32 - 1 - d) reach

-- the halfwords of a distance within reach, modulo the reach; None where it is odd or out of reach
abbrev pub halfwords : ℕ → ℕ → Option ℕ
halfwords reach d = if d % 2 == 0 && is_within reach d then Some (d / 2 % reach) else None

abbrev pub call : ℕ → ThumbOps
call count = Two (Format19 false (count / 2048)) (Format19 true (count % 2048))

-- The operations of a statement at this address, whose target is at that one; None where a number has no encoding.
unfoldable pub operations_at : ℕ → ℕ → ThumbStatement → Option ThumbOps
operations_at address target (Operation op) = option_map One op
operations_at address target (Branch _) =
    option_map (λ count. One (Format18 count)) (halfwords 2048 (distance address target))
operations_at address target (BranchIf cond _) =
    option_map (λ count. One (Format16 cond count)) (halfwords 256 (distance address target))
operations_at address target (Call _) = option_map call (halfwords 4194304 (distance address target))
