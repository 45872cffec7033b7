-- The statements of ARM operations, in the forms of the assembler.
use Rattle.std.specs.Prelude.{ℕ, ◌+◌, ◌*◌, ◌%◌, ◌^◌, nat_le, Bool, true, false, not, ◌&&◌, ◌==◌, List, [], ◌∷◌, ◌++◌, codes, ℤ, Option, Some, None, if◌then◌else◌}
use Rattle.std.specs.Int.{w32, rotate_right, cast_unsigned}
use Rattle.gba_terms.specs.Bits.{bit}
use Rattle.gba_word.specs.declared.kinds.Shift.{Shift}
use Rattle.gba_word.specs.declared.kinds.Shift.TheVariants.{Lsl, Lsr, Asr, Ror}
use Rattle.gba_arm_table.specs.declared.operation.ArmOp.{ArmOp}
use Rattle.gba_arm_table.specs.declared.operation.ArmOp.TheVariants as operation
use Rattle.gba_arm_table.specs.declared.operation.CompareOp.{CompareOp}
use Rattle.gba_arm_table.specs.declared.operation.CompareOp.TheVariants.{Tst, Teq, Cmp, Cmn}
use Rattle.gba_arm_table.specs.declared.operation.ComputeOp.{ComputeOp}
use Rattle.gba_arm_table.specs.declared.operation.ComputeOp.TheVariants.{And, Eor, Sub, Rsb, Add, Adc, Sbc, Rsc, Orr, Mov, Bic, Mvn}
use Rattle.gba_arm_table.specs.declared.operation.Condition.{Condition}
use Rattle.gba_arm_table.specs.declared.operation.Condition.TheVariants.{Equal, NotEqual, CarrySet, CarryClear, Minus, Plus, Overflow, NoOverflow, Higher, LowerOrSame, GreaterOrEqual, Less, Greater, LessOrEqual, Always, Never}
use Rattle.gba_arm_table.specs.declared.operation.HalfKind.{HalfKind}
use Rattle.gba_arm_table.specs.declared.operation.HalfKind.TheVariants.{StoreHalf, LoadHalf, LoadSignedByte, LoadSignedHalf}
use Rattle.gba_arm_table.specs.declared.operation.HalfOffset.{HalfOffset}
use Rattle.gba_arm_table.specs.declared.operation.HalfOffset.TheVariants as half
use Rattle.gba_arm_table.specs.declared.operation.Operand.{Operand}
use Rattle.gba_arm_table.specs.declared.operation.Operand.TheVariants as operand
use Rattle.gba_arm_table.specs.declared.operation.Source.{Source}
use Rattle.gba_arm_table.specs.declared.operation.Source.TheVariants as source
use Rattle.gba_arm_table.specs.declared.operation.TransferOffset.{TransferOffset}
use Rattle.gba_arm_table.specs.declared.operation.TransferOffset.TheVariants as transfer
use Rattle.gba_dis.specs.Pieces.{Piece, Name, Plain, Comma, Mark, register, number, address_piece, braces}

-- The letters of a condition: none for always. No statement is conditioned never, so its letters are no condition's.
abbrev pub condition_text : Condition → List ℕ
condition_text Equal = codes "eq"
condition_text NotEqual = codes "ne"
condition_text CarrySet = codes "cs"
condition_text CarryClear = codes "cc"
condition_text Minus = codes "mi"
condition_text Plus = codes "pl"
condition_text Overflow = codes "vs"
condition_text NoOverflow = codes "vc"
condition_text Higher = codes "hi"
condition_text LowerOrSame = codes "ls"
condition_text GreaterOrEqual = codes "ge"
condition_text Less = codes "lt"
condition_text Greater = codes "gt"
condition_text LessOrEqual = codes "le"
condition_text Always = []
condition_text Never = codes "nv"

-- a name: its first letters, its condition, its suffix
abbrev pub name : List ℕ → Condition → List ℕ → Piece
name base cond suffix = Name (base ++ condition_text cond ++ suffix)

-- letters, or none
abbrev pub letters_if : Bool → List ℕ → List ℕ
letters_if set letters = if set then letters else []

abbrev pub compute_text : ComputeOp → List ℕ
compute_text And = codes "and"
compute_text Eor = codes "eor"
compute_text Sub = codes "sub"
compute_text Rsb = codes "rsb"
compute_text Add = codes "add"
compute_text Adc = codes "adc"
compute_text Sbc = codes "sbc"
compute_text Rsc = codes "rsc"
compute_text Orr = codes "orr"
compute_text Mov = codes "mov"
compute_text Bic = codes "bic"
compute_text Mvn = codes "mvn"

abbrev pub compare_text : CompareOp → List ℕ
compare_text Tst = codes "tst"
compare_text Teq = codes "teq"
compare_text Cmp = codes "cmp"
compare_text Cmn = codes "cmn"

abbrev pub shift_text : Shift → List ℕ
shift_text Lsl = codes "lsl"
shift_text Lsr = codes "lsr"
shift_text Asr = codes "asr"
shift_text Ror = codes "ror"

-- `#` (35) and a number
abbrev pub immediate : ℕ → List Piece
immediate n = Mark 35 ∷ number n ∷ []

-- a shift by a constant after a register
abbrev pub shifted : Shift → ℕ → List Piece
shifted kind amount = Comma ∷ Name (shift_text kind) ∷ immediate amount

-- LSR and ASR by the five bits 0 are by 32
abbrev pub or_32 : ℕ → ℕ
or_32 amount = if amount == 0 then 32 else amount

-- The shift of a register by five bits, as an ARM statement has it: LSL by 0 is no shift, ROR by 0 is RRX.
abbrev pub shift_pieces : Shift → ℕ → List Piece
shift_pieces Lsl amount = if amount == 0 then [] else shifted Lsl amount
shift_pieces Lsr amount = shifted Lsr (or_32 amount)
shift_pieces Asr amount = shifted Asr (or_32 amount)
shift_pieces Ror amount = if amount == 0 then Comma ∷ Plain (codes "rrx") ∷ [] else shifted Ror amount

-- eight bits rotated right by twice the turn
abbrev pub turned : ℕ → ℕ → ℕ
turned value turn = rotate_right w32 value (2 * turn)

-- the last operand of data processing
unfoldable pub second : Operand → List Piece
second (operand.Immediate value turn) = immediate (turned value turn)
second (operand.Fixed rm kind amount) = register rm ∷ shift_pieces kind amount
second (operand.ByRegister rm kind rs) = register rm ∷ Comma ∷ Name (shift_text kind) ∷ register rs ∷ []

abbrev pub source_pieces : Source → List Piece
source_pieces (source.Immediate value turn) = immediate (turned value turn)
source_pieces (source.Plain rm) = register rm ∷ []

-- a mark, or none
abbrev pub mark_if : Bool → ℕ → List Piece → List Piece
mark_if set mark rest = if set then Mark mark ∷ rest else rest

-- a number of bytes after `#`, or after `#-` (45) where it goes down
abbrev pub number_distance : Bool → ℕ → List Piece
number_distance up value = Mark 35 ∷ mark_if (not up) 45 (number value ∷ [])

abbrev pub register_distance : Bool → ℕ → List Piece → List Piece
register_distance up rm rest = mark_if (not up) 45 (register rm ∷ rest)

unfoldable pub transfer_distance : Bool → TransferOffset → List Piece
transfer_distance up (transfer.Number value) = number_distance up value
transfer_distance up (transfer.Shifted rm kind amount) = register_distance up rm (shift_pieces kind amount)

unfoldable pub half_distance : Bool → HalfOffset → List Piece
half_distance up (half.Number value) = number_distance up value
half_distance up (half.Plain rm) = register_distance up rm []

-- An address: `[rn, DISTANCE]` with `!` (33) where it is written back, or `[rn], DISTANCE` where the distance goes on
-- after the access.
unfoldable pub open_address : Bool → ℕ → List Piece
open_address pre rn = Mark 91 ∷ register rn ∷ mark_if (not pre) 93 (Comma ∷ [])

unfoldable pub close_address : Bool → Bool → List Piece
close_address pre write = if pre then Mark 93 ∷ mark_if write 33 [] else []

abbrev pub address : Bool → Bool → ℕ → List Piece → List Piece
address pre write rn distance = open_address pre rn ++ (distance ++ close_address pre write)

abbrev pub half_base : HalfKind → List ℕ
half_base StoreHalf = codes "str"
half_base LoadHalf = codes "ldr"
half_base LoadSignedByte = codes "ldr"
half_base LoadSignedHalf = codes "ldr"

abbrev pub half_suffix : HalfKind → List ℕ
half_suffix StoreHalf = codes "h"
half_suffix LoadHalf = codes "h"
half_suffix LoadSignedByte = codes "sb"
half_suffix LoadSignedHalf = codes "sh"

-- a word or a byte; `t` where the bit W stands beside an offset that goes on after the access
abbrev pub transfer_suffix : Bool → Bool → List ℕ
transfer_suffix false false = []
transfer_suffix false true = codes "t"
transfer_suffix true false = codes "b"
transfer_suffix true true = codes "bt"

abbrev pub block_suffix : Bool → Bool → List ℕ
block_suffix false true = codes "ia"
block_suffix true true = codes "ib"
block_suffix false false = codes "da"
block_suffix true false = codes "db"

abbrev pub long_base : Bool → Bool → List ℕ
long_base false false = codes "umull"
long_base false true = codes "umlal"
long_base true false = codes "smull"
long_base true true = codes "smlal"

abbrev pub status_text : Bool → List ℕ
status_text false = codes "cpsr"
status_text true = codes "spsr"

-- `_` (95) and the letters of the fields, which are bits 3, 2, 1 and 0
abbrev pub fields_text : ℕ → List ℕ
fields_text fields =
    codes "_" ++ letters_if (bit fields 3) (codes "f") ++ letters_if (bit fields 2) (codes "s")
    ++ letters_if (bit fields 1) (codes "x") ++ letters_if (bit fields 0) (codes "c")

-- MOV and MVN have no first operand
abbrev pub first_operand : ComputeOp → ℕ → List Piece
first_operand Mov rn = []
first_operand Mvn rn = []
first_operand _ rn = register rn ∷ Comma ∷ []

-- where a branch at this address leads: so many words from the address plus 8, modulo 2 ^ 32
abbrev pub branch_target : ℕ → ℤ → ℕ
branch_target at offset = (at + 8 + 4 * cast_unsigned w32 offset) % 2 ^ 32

abbrev pub exchange_pieces : Condition → ℕ → List Piece
exchange_pieces cond rm = name (codes "bx") cond [] ∷ register rm ∷ []

abbrev pub multiply_pieces : Condition → Bool → Bool → ℕ → ℕ → ℕ → ℕ → List Piece
multiply_pieces cond false set rd rn rs rm =
    name (codes "mul") cond (letters_if set (codes "s")) ∷ register rd ∷ Comma ∷ register rm ∷ Comma ∷ register rs ∷ []
multiply_pieces cond true set rd rn rs rm =
    name (codes "mla") cond (letters_if set (codes "s")) ∷ register rd ∷ Comma ∷ register rm ∷ Comma
    ∷ register rs ∷ Comma ∷ register rn ∷ []

abbrev pub long_registers : ℕ → ℕ → ℕ → ℕ → List Piece
long_registers lo hi rm rs = register lo ∷ Comma ∷ register hi ∷ Comma ∷ register rm ∷ Comma ∷ register rs ∷ []

abbrev pub long_pieces : Condition → Bool → Bool → Bool → ℕ → ℕ → ℕ → ℕ → List Piece
long_pieces cond signed accumulate set hi lo rs rm =
    name (long_base signed accumulate) cond (letters_if set (codes "s")) ∷ long_registers lo hi rm rs

abbrev pub swap_pieces : Condition → Bool → ℕ → ℕ → ℕ → List Piece
swap_pieces cond byte rn rd rm =
    name (codes "swp") cond (letters_if byte (codes "b")) ∷ register rd ∷ Comma ∷ register rm ∷ Comma ∷ Mark 91
    ∷ register rn ∷ Mark 93 ∷ []

abbrev pub half_pieces : Condition → HalfKind → Bool → Bool → Bool → ℕ → ℕ → HalfOffset → List Piece
half_pieces cond kind pre up write rn rd offset =
    name (half_base kind) cond (half_suffix kind) ∷ register rd ∷ Comma ∷ address pre write rn (half_distance up offset)

abbrev pub read_status_pieces : Condition → Bool → ℕ → List Piece
read_status_pieces cond saved rd = name (codes "mrs") cond [] ∷ register rd ∷ Comma ∷ Plain (status_text saved) ∷ []

abbrev pub write_status_pieces : Condition → Bool → ℕ → Source → List Piece
write_status_pieces cond saved fields source =
    name (codes "msr") cond [] ∷ Plain (status_text saved ++ fields_text fields) ∷ Comma ∷ source_pieces source

abbrev pub compute_pieces : Condition → ComputeOp → Bool → ℕ → ℕ → Operand → List Piece
compute_pieces cond op set rn rd operand =
    name (compute_text op) cond (letters_if set (codes "s")) ∷ register rd ∷ Comma
    ∷ (first_operand op rn ++ second operand)

abbrev pub compare_pieces : Condition → CompareOp → ℕ → Operand → List Piece
compare_pieces cond op rn operand = name (compare_text op) cond [] ∷ register rn ∷ Comma ∷ second operand

abbrev pub transfer_base : Bool → List ℕ
transfer_base load = if load then codes "ldr" else codes "str"

abbrev pub transfer_pieces : Condition → Bool → Bool → Bool → Bool → Bool → ℕ → ℕ → TransferOffset → List Piece
transfer_pieces cond load byte pre up write rn rd offset =
    name (transfer_base load) cond (transfer_suffix byte (not pre && write)) ∷ register rd ∷ Comma
    ∷ address pre write rn (transfer_distance up offset)

abbrev pub block_base : Bool → List ℕ
block_base load = if load then codes "ldm" else codes "stm"

-- `!` (33) where the base is written back, and a comma
unfoldable pub block_mark : Bool → List Piece
block_mark write = mark_if write 33 (Comma ∷ [])

-- `^` (94) with the bit S
unfoldable pub user_mark : Bool → List Piece
user_mark user = mark_if user 94 []

abbrev pub block_pieces : Condition → Bool → Bool → Bool → Bool → Bool → ℕ → ℕ → List Piece
block_pieces cond load pre up user write rn list =
    name (block_base load) cond (block_suffix pre up) ∷ register rn
    ∷ (block_mark write ++ (braces list ++ user_mark user))

abbrev pub branch_base : Bool → List ℕ
branch_base link = if link then codes "bl" else codes "b"

abbrev pub branch_pieces : ℕ → Condition → Bool → ℤ → List Piece
branch_pieces at cond link offset = name (branch_base link) cond [] ∷ address_piece (branch_target at offset) ∷ []

abbrev pub interrupt_pieces : Condition → ℕ → List Piece
interrupt_pieces cond comment = name (codes "swi") cond [] ∷ immediate comment

-- the statement of an operation at this address
unfoldable pub arm_pieces : ℕ → ArmOp → List Piece
arm_pieces at (operation.Exchange cond rm) = exchange_pieces cond rm
arm_pieces at (operation.Multiply cond accumulate set rd rn rs rm) = multiply_pieces cond accumulate set rd rn rs rm
arm_pieces at (operation.MultiplyLong cond signed accumulate set hi lo rs rm) =
    long_pieces cond signed accumulate set hi lo rs rm
arm_pieces at (operation.Swap cond byte rn rd rm) = swap_pieces cond byte rn rd rm
arm_pieces at (operation.Half cond kind pre up write rn rd offset) = half_pieces cond kind pre up write rn rd offset
arm_pieces at (operation.ReadStatus cond saved rd) = read_status_pieces cond saved rd
arm_pieces at (operation.WriteStatus cond saved fields source) = write_status_pieces cond saved fields source
arm_pieces at (operation.Compute cond op set rn rd operand) = compute_pieces cond op set rn rd operand
arm_pieces at (operation.Compare cond op rn operand) = compare_pieces cond op rn operand
arm_pieces at (operation.Transfer cond load byte pre up write rn rd offset) =
    transfer_pieces cond load byte pre up write rn rd offset
arm_pieces at (operation.Block cond load pre up user write rn list) = block_pieces cond load pre up user write rn list
arm_pieces at (operation.Branch cond link offset) = branch_pieces at cond link offset
arm_pieces at (operation.Interrupt cond comment) = interrupt_pieces cond comment

abbrev pub arm_statement : ℕ → Option ArmOp → List Piece
arm_statement at (Some op) = arm_pieces at op
arm_statement at None = []
