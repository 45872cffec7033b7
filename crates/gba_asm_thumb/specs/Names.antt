-- The names of Thumb statements.
use Rattle.std.specs.Prelude.{ℕ, true, false, nat_lt, ◌==◌, List, [], ◌∷◌, codes, Option, Some, None, option_map, if◌then◌else◌}
use Rattle.std.specs.Str.{bytes_eq}
use Rattle.gba_word.specs.declared.kinds.Shift.TheVariants.{Lsl, Lsr, Asr}
use Rattle.gba_arm_table.specs.declared.operation.Condition.{Condition}
use Rattle.gba_arm_table.specs.Numbers.{condition_number}
use Rattle.gba_asm_words.specs.Names.{first_some}
use Rattle.gba_asm_arm.specs.Tails.{condition_of}
use Rattle.gba_asm_thumb.specs.declared.names.Access.TheVariants as access
use Rattle.gba_asm_thumb.specs.declared.names.ThumbName.{ThumbName}
use Rattle.gba_asm_thumb.specs.declared.names.ThumbName.TheVariants as name

-- the operations of format 4 that no other format shares a name with, each with its number there
unfoldable pub two_register_of : List ℕ → Option ℕ
two_register_of word =
    if bytes_eq word (codes "and") then Some 0
    else if bytes_eq word (codes "eor") then Some 1
    else if bytes_eq word (codes "adc") then Some 5
    else if bytes_eq word (codes "sbc") then Some 6
    else if bytes_eq word (codes "ror") then Some 7
    else if bytes_eq word (codes "tst") then Some 8
    else if bytes_eq word (codes "neg") then Some 9
    else if bytes_eq word (codes "cmn") then Some 11
    else if bytes_eq word (codes "orr") then Some 12
    else if bytes_eq word (codes "mul") then Some 13
    else if bytes_eq word (codes "bic") then Some 14
    else if bytes_eq word (codes "mvn") then Some 15
    else None

-- the loads and stores
unfoldable pub access_of : List ℕ → Option ThumbName
access_of word =
    if bytes_eq word (codes "ldr") then Some (name.Transfer true access.Word)
    else if bytes_eq word (codes "ldrb") then Some (name.Transfer true access.Byte)
    else if bytes_eq word (codes "ldrh") then Some (name.Transfer true access.Half)
    else if bytes_eq word (codes "ldrsb") then Some (name.Transfer true access.SignedByte)
    else if bytes_eq word (codes "ldrsh") then Some (name.Transfer true access.SignedHalf)
    else if bytes_eq word (codes "str") then Some (name.Transfer false access.Word)
    else if bytes_eq word (codes "strb") then Some (name.Transfer false access.Byte)
    else if bytes_eq word (codes "strh") then Some (name.Transfer false access.Half)
    else None

-- the other names
unfoldable pub other_of : List ℕ → Option ThumbName
other_of word =
    if bytes_eq word (codes "lsl") then Some (name.Shifted Lsl)
    else if bytes_eq word (codes "lsr") then Some (name.Shifted Lsr)
    else if bytes_eq word (codes "asr") then Some (name.Shifted Asr)
    else if bytes_eq word (codes "mov") then Some name.Move
    else if bytes_eq word (codes "cmp") then Some name.Compare
    else if bytes_eq word (codes "add") then Some name.Add
    else if bytes_eq word (codes "sub") then Some name.Subtract
    else if bytes_eq word (codes "bx") then Some name.Exchange
    else if bytes_eq word (codes "push") then Some name.Push
    else if bytes_eq word (codes "pop") then Some name.Pop
    else if bytes_eq word (codes "ldmia") then Some (name.Block true)
    else if bytes_eq word (codes "stmia") then Some (name.Block false)
    else if bytes_eq word (codes "bl") then Some name.Call
    else if bytes_eq word (codes "b") then Some name.Branch
    else if bytes_eq word (codes "swi") then Some name.Interrupt
    else None

-- the branch under a condition, which has only the first fourteen
abbrev pub branch_under : Condition → Option ThumbName
branch_under cond =
    if nat_lt (condition_number cond) 14 then Some (name.BranchIf (condition_number cond)) else None

abbrev pub branch_if : Option Condition → Option ThumbName
branch_if (Some cond) = branch_under cond
branch_if None = None

-- `b` (98) and a condition
abbrev pub branch_of : List ℕ → Option ThumbName
branch_of [] = None
branch_of (b ∷ letters) = if b == 98 then branch_if (condition_of letters) else None

-- the statement that a word names
unfoldable pub thumb_name : List ℕ → Option ThumbName
thumb_name word =
    first_some (other_of word)
    (first_some (access_of word)
    (first_some (option_map name.TwoRegisters (two_register_of word)) (branch_of word)))
