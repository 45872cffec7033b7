-- The names of ARM statements: first letters, a condition, a suffix.
use Rattle.std.specs.Prelude.{ℕ, Bool, true, false, ◌==◌, nat_lt, List, [], ◌∷◌, length, take, drop, codes, Option, Some, None, option_map, if◌then◌else◌}
use Rattle.std.specs.Str.{bytes_eq}
use Rattle.gba_arm_table.specs.declared.operation.Condition.{Condition}
use Rattle.gba_arm_table.specs.declared.operation.CompareOp.{CompareOp}
use Rattle.gba_arm_table.specs.declared.operation.CompareOp.TheVariants.{Tst, Teq, Cmp, Cmn}
use Rattle.gba_arm_table.specs.declared.operation.ComputeOp.{ComputeOp}
use Rattle.gba_arm_table.specs.declared.operation.ComputeOp.TheVariants.{And, Eor, Sub, Rsb, Add, Adc, Sbc, Rsc, Orr, Mov, Bic, Mvn}
use Rattle.gba_arm_table.specs.declared.operation.HalfKind.TheVariants.{StoreHalf, LoadHalf, LoadSignedByte, LoadSignedHalf}
use Rattle.gba_asm_words.specs.Names.{first_some}
use Rattle.gba_asm_arm.specs.declared.names.ArmName.{ArmName}
use Rattle.gba_asm_arm.specs.declared.names.Base.{Base}
use Rattle.gba_asm_arm.specs.declared.names.Base.TheVariants as base
use Rattle.gba_asm_arm.specs.declared.names.Mnemonic.{Mnemonic}
use Rattle.gba_asm_arm.specs.declared.names.Mnemonic.TheVariants as mnemonic
use Rattle.gba_asm_arm.specs.declared.tails.Suffix.{Suffix}
use Rattle.gba_asm_arm.specs.declared.tails.Suffix.TheVariants as suffix
use Rattle.gba_asm_arm.specs.Tails.{Conditioned, whole_condition, condition_first, suffix_of}

-- the data processing operation that writes a register
unfoldable pub compute_of : List ℕ → Option ComputeOp
compute_of name =
    if bytes_eq name (codes "and") then Some And
    else if bytes_eq name (codes "eor") then Some Eor
    else if bytes_eq name (codes "sub") then Some Sub
    else if bytes_eq name (codes "rsb") then Some Rsb
    else if bytes_eq name (codes "add") then Some Add
    else if bytes_eq name (codes "adc") then Some Adc
    else if bytes_eq name (codes "sbc") then Some Sbc
    else if bytes_eq name (codes "rsc") then Some Rsc
    else if bytes_eq name (codes "orr") then Some Orr
    else if bytes_eq name (codes "mov") then Some Mov
    else if bytes_eq name (codes "bic") then Some Bic
    else if bytes_eq name (codes "mvn") then Some Mvn
    else None

-- the data processing operation that writes the flags alone
unfoldable pub compare_of : List ℕ → Option CompareOp
compare_of name =
    if bytes_eq name (codes "tst") then Some Tst
    else if bytes_eq name (codes "teq") then Some Teq
    else if bytes_eq name (codes "cmp") then Some Cmp
    else if bytes_eq name (codes "cmn") then Some Cmn
    else None

-- the other names that begin with three letters
unfoldable pub other_of : List ℕ → Option Base
other_of name =
    if bytes_eq name (codes "mul") then Some (base.Multiply false)
    else if bytes_eq name (codes "mla") then Some (base.Multiply true)
    else if bytes_eq name (codes "ldr") then Some base.Load
    else if bytes_eq name (codes "str") then Some base.Store
    else if bytes_eq name (codes "ldm") then Some (base.Block true)
    else if bytes_eq name (codes "stm") then Some (base.Block false)
    else if bytes_eq name (codes "swp") then Some base.Swap
    else if bytes_eq name (codes "mrs") then Some base.ReadStatus
    else if bytes_eq name (codes "msr") then Some base.WriteStatus
    else if bytes_eq name (codes "swi") then Some base.Interrupt
    else None

abbrev pub three_base : List ℕ → Option Base
three_base name =
    first_some (option_map base.Compute (compute_of name))
    (first_some (option_map base.Compare (compare_of name)) (other_of name))

-- the names that begin with five letters
unfoldable pub long_base : List ℕ → Option Base
long_base name =
    if bytes_eq name (codes "umull") then Some (base.MultiplyLong false false)
    else if bytes_eq name (codes "umlal") then Some (base.MultiplyLong false true)
    else if bytes_eq name (codes "smull") then Some (base.MultiplyLong true false)
    else if bytes_eq name (codes "smlal") then Some (base.MultiplyLong true true)
    else None

-- whether the flags are made
abbrev pub set_of : Suffix → Option Bool
set_of suffix.Plain = Some false
set_of suffix.Set = Some true
set_of _ = None

-- no suffix
abbrev pub plain : Mnemonic → Suffix → Option Mnemonic
plain name suffix.Plain = Some name
plain name _ = None

abbrev pub load_of : Suffix → Option Mnemonic
load_of suffix.Plain = Some (mnemonic.Transfer true false false)
load_of suffix.Byte = Some (mnemonic.Transfer true true false)
load_of suffix.User = Some (mnemonic.Transfer true false true)
load_of suffix.ByteUser = Some (mnemonic.Transfer true true true)
load_of suffix.Half = Some (mnemonic.Half LoadHalf)
load_of suffix.SignedByte = Some (mnemonic.Half LoadSignedByte)
load_of suffix.SignedHalf = Some (mnemonic.Half LoadSignedHalf)
load_of _ = None

abbrev pub store_of : Suffix → Option Mnemonic
store_of suffix.Plain = Some (mnemonic.Transfer false false false)
store_of suffix.Byte = Some (mnemonic.Transfer false true false)
store_of suffix.User = Some (mnemonic.Transfer false false true)
store_of suffix.ByteUser = Some (mnemonic.Transfer false true true)
store_of suffix.Half = Some (mnemonic.Half StoreHalf)
store_of _ = None

-- the bits P and U of a block
abbrev pub block_of : Bool → Suffix → Option Mnemonic
block_of load suffix.IncrementAfter = Some (mnemonic.Block load false true)
block_of load suffix.IncrementBefore = Some (mnemonic.Block load true true)
block_of load suffix.DecrementAfter = Some (mnemonic.Block load false false)
block_of load suffix.DecrementBefore = Some (mnemonic.Block load true false)
block_of load _ = None

abbrev pub swap_of : Suffix → Option Mnemonic
swap_of suffix.Plain = Some (mnemonic.Swap false)
swap_of suffix.Byte = Some (mnemonic.Swap true)
swap_of _ = None

-- the suffixes that each name may have
unfoldable pub mnemonic_of : Base → Suffix → Option Mnemonic
mnemonic_of (base.Compute op) suffix = option_map (mnemonic.Compute op) (set_of suffix)
mnemonic_of (base.Compare op) suffix = plain (mnemonic.Compare op) suffix
mnemonic_of (base.Multiply accumulate) suffix = option_map (mnemonic.Multiply accumulate) (set_of suffix)
mnemonic_of (base.MultiplyLong signed accumulate) suffix =
    option_map (mnemonic.MultiplyLong signed accumulate) (set_of suffix)
mnemonic_of base.Load suffix = load_of suffix
mnemonic_of base.Store suffix = store_of suffix
mnemonic_of (base.Block load) suffix = block_of load suffix
mnemonic_of base.Swap suffix = swap_of suffix
mnemonic_of base.ReadStatus suffix = plain mnemonic.ReadStatus suffix
mnemonic_of base.WriteStatus suffix = plain mnemonic.WriteStatus suffix
mnemonic_of base.Interrupt suffix = plain mnemonic.Interrupt suffix

abbrev pub name_with : Mnemonic → Condition → ArmName
name_with name cond = record { cond = cond; mnemonic = name }

abbrev pub named_by : Condition → Option Mnemonic → Option ArmName
named_by cond name = option_map (λ n. name_with n cond) name

abbrev pub with_suffix : Base → Condition → Option Suffix → Option ArmName
with_suffix b cond (Some suffix) = named_by cond (mnemonic_of b suffix)
with_suffix b cond None = None

abbrev pub tailed : Base → Conditioned → Option ArmName
tailed b t = with_suffix b t.cond (suffix_of t.rest)

-- a name that begins so, and the letters after that
unfoldable pub with_tail : List ℕ → Option Base → Option ArmName
with_tail letters (Some b) = tailed b (condition_first letters)
with_tail letters None = None

unfoldable pub long_name : List ℕ → Option ArmName
long_name word = if nat_lt (length word) 5 then None else with_tail (drop 5 word) (long_base (take 5 word))

unfoldable pub three_name : List ℕ → Option ArmName
three_name word = if nat_lt (length word) 3 then None else with_tail (drop 3 word) (three_base (take 3 word))

abbrev pub conditional : Mnemonic → List ℕ → Option ArmName
conditional name letters = option_map (name_with name) (whole_condition letters)

-- `l` (108) and `x` (120) after `b`
abbrev pub longer_branch : List ℕ → Option ArmName
longer_branch [] = None
longer_branch (b ∷ letters) =
    if b == 108 then conditional (mnemonic.Branch true) letters
    else if b == 120 then conditional mnemonic.Exchange letters
    else None

-- `b` (98), `bl` and `bx` with a condition; `bls` is `b` with `ls`
abbrev pub branch_name : List ℕ → Option ArmName
branch_name [] = None
branch_name (b ∷ letters) =
    if b == 98 then first_some (conditional (mnemonic.Branch false) letters) (longer_branch letters) else None

-- the statement that a word names
unfoldable pub arm_name : List ℕ → Option ArmName
arm_name word = first_some (branch_name word) (first_some (three_name word) (long_name word))
