-- The statements of Thumb operations, in the forms of the assembler (GBATEK, THUMB.1 to THUMB.19). Offsets are in bytes
-- and always printed.
use Rattle.std.specs.Prelude.{ℕ, ◌+◌, ◌-◌, ◌*◌, ◌%◌, ◌^◌, nat_lt, Bool, true, false, ◌==◌, List, [], ◌∷◌, ◌++◌, codes, Option, Some, None, if◌then◌else◌}
use Rattle.gba_arm_table.specs.Numbers.{condition_of}
use Rattle.gba_thumb_table.specs.declared.operation.ThumbOp.{ThumbOp}
use Rattle.gba_thumb_table.specs.declared.operation.ThumbOp.TheVariants as operation
use Rattle.gba_dis.specs.Arm.{condition_text, immediate, mark_if, or_32}
use Rattle.gba_dis.specs.Pieces.{Piece, Name, Plain, Comma, Mark, register, number, address_piece, braces}

-- the shifts of format 1
abbrev pub shift_name : ℕ → List ℕ
shift_name op = if op == 0 then codes "lsl" else if op == 1 then codes "lsr" else codes "asr"

-- LSR and ASR by 0 are by 32
abbrev pub shift_amount : ℕ → ℕ → ℕ
shift_amount op o5 = if op == 0 then o5 else or_32 o5

-- the operations of format 3
abbrev pub number_name : ℕ → List ℕ
number_name op =
    if op == 0 then codes "mov" else if op == 1 then codes "cmp" else if op == 2 then codes "add" else codes "sub"

-- the operations of format 4
abbrev pub two_register_name : ℕ → List ℕ
two_register_name op =
    if op == 0 then codes "and"
    else if op == 1 then codes "eor"
    else if op == 2 then codes "lsl"
    else if op == 3 then codes "lsr"
    else if op == 4 then codes "asr"
    else if op == 5 then codes "adc"
    else if op == 6 then codes "sbc"
    else if op == 7 then codes "ror"
    else if op == 8 then codes "tst"
    else if op == 9 then codes "neg"
    else if op == 10 then codes "cmp"
    else if op == 11 then codes "cmn"
    else if op == 12 then codes "orr"
    else if op == 13 then codes "mul"
    else if op == 14 then codes "bic"
    else codes "mvn"

-- the operations of format 5 on two registers
abbrev pub high_name : ℕ → List ℕ
high_name op = if op == 0 then codes "add" else if op == 1 then codes "cmp" else codes "mov"

-- a register of format 5
abbrev pub high_register : Bool → ℕ → ℕ
high_register high n = if high then n + 8 else n

abbrev pub sum_name : Bool → List ℕ
sum_name down = if down then codes "sub" else codes "add"

abbrev pub load_name : Bool → List ℕ
load_name load = if load then codes "ldr" else codes "str"

abbrev pub byte_name : Bool → Bool → List ℕ
byte_name false false = codes "str"
byte_name false true = codes "strb"
byte_name true false = codes "ldr"
byte_name true true = codes "ldrb"

abbrev pub half_name : Bool → List ℕ
half_name load = if load then codes "ldrh" else codes "strh"

-- the operations of format 8, by H and S
abbrev pub signed_name : Bool → Bool → List ℕ
signed_name false false = codes "strh"
signed_name false true = codes "ldrsb"
signed_name true false = codes "ldrh"
signed_name true true = codes "ldrsh"

-- the bytes of an offset of format 9
abbrev pub scaled : Bool → ℕ → ℕ
scaled byte o5 = if byte then o5 else 4 * o5

-- the list of PUSH and POP with one more register, bit by bit
abbrev pub stack_list : Bool → Bool → ℕ → ℕ
stack_list load more list = if more then (if load then list + 2 ^ 15 else list + 2 ^ 14) else list

-- Where a branch at this address leads: so many halfwords from the address plus 4, modulo 2 ^ 32. The number of
-- halfwords is a signed one, from -reach to reach - 1.
abbrev pub branch_target : ℕ → ℕ → ℕ → ℕ
branch_target reach at n =
    if nat_lt n reach then (at + 4 + 2 * n) % 2 ^ 32 else (at + 4 + 2 ^ 32 + 2 * n - 4 * reach) % 2 ^ 32

-- a name, a register and one more
abbrev pub two_pieces : List ℕ → ℕ → ℕ → List Piece
two_pieces name first second = Name name ∷ register first ∷ Comma ∷ register second ∷ []

abbrev pub number_pieces : List ℕ → ℕ → ℕ → List Piece
number_pieces name rd n = Name name ∷ register rd ∷ Comma ∷ immediate n

abbrev pub three_pieces : List ℕ → ℕ → ℕ → ℕ → List Piece
three_pieces name rd rs rn = Name name ∷ register rd ∷ Comma ∷ register rs ∷ Comma ∷ register rn ∷ []

abbrev pub two_number_pieces : List ℕ → ℕ → ℕ → ℕ → List Piece
two_number_pieces name rd rs n = Name name ∷ register rd ∷ Comma ∷ register rs ∷ Comma ∷ immediate n

abbrev pub sum_pieces : Bool → Bool → ℕ → ℕ → ℕ → List Piece
sum_pieces true down x3 rs rd = two_number_pieces (sum_name down) rd rs x3
sum_pieces false down x3 rs rd = three_pieces (sum_name down) rd rs x3

abbrev pub high_pieces : ℕ → Bool → Bool → ℕ → ℕ → List Piece
high_pieces op h1 h2 rs rd =
    if op == 3 then Name (codes "bx") ∷ register (high_register h2 rs) ∷ []
    else two_pieces (high_name op) (high_register h1 rd) (high_register h2 rs)

-- `rd, [rb, ` after a name
abbrev pub open_pieces : List ℕ → ℕ → ℕ → List Piece
open_pieces name rd rb = Name name ∷ register rd ∷ Comma ∷ Mark 91 ∷ register rb ∷ Comma ∷ []

-- `rd, [rb, ro]` (91 is `[`, 93 is `]`)
abbrev pub by_register : List ℕ → ℕ → ℕ → ℕ → List Piece
by_register name rd rb ro =
    Name name ∷ register rd ∷ Comma ∷ Mark 91 ∷ register rb ∷ Comma ∷ register ro ∷ Mark 93 ∷ []

-- `rd, [rb, #n]`
abbrev pub by_number : List ℕ → ℕ → ℕ → ℕ → List Piece
by_number name rd rb n =
    Name name ∷ register rd ∷ Comma ∷ Mark 91 ∷ register rb ∷ Comma ∷ Mark 35 ∷ number n ∷ Mark 93 ∷ []

abbrev pub stack_name : Bool → List ℕ
stack_name load = if load then codes "pop" else codes "push"

abbrev pub block_name : Bool → List ℕ
block_name load = if load then codes "ldmia" else codes "stmia"

abbrev pub block_pieces : Bool → ℕ → ℕ → List Piece
block_pieces load rb list = Name (block_name load) ∷ register rb ∷ Mark 33 ∷ Comma ∷ braces list

abbrev pub branch_pieces : List ℕ → ℕ → List Piece
branch_pieces name target = Name name ∷ address_piece target ∷ []

abbrev pub branch_name : ℕ → List ℕ
branch_name cond = codes "b" ++ condition_text (condition_of cond)

-- The statement of an operation at this address. A half of BL by itself has none.
unfoldable pub thumb_pieces : ℕ → ThumbOp → List Piece
thumb_pieces at (operation.Format1 op o5 rs rd) = two_number_pieces (shift_name op) rd rs (shift_amount op o5)
thumb_pieces at (operation.Format2 i op x3 rs rd) = sum_pieces i op x3 rs rd
thumb_pieces at (operation.Format3 op rd n8) = number_pieces (number_name op) rd n8
thumb_pieces at (operation.Format4 op rs rd) = two_pieces (two_register_name op) rd rs
thumb_pieces at (operation.Format5 op h1 h2 rs rd) = high_pieces op h1 h2 rs rd
thumb_pieces at (operation.Format6 rd n8) = by_number (codes "ldr") rd 15 (4 * n8)
thumb_pieces at (operation.Format7 l b ro rb rd) = by_register (byte_name l b) rd rb ro
thumb_pieces at (operation.Format8 h s ro rb rd) = by_register (signed_name h s) rd rb ro
thumb_pieces at (operation.Format9 b l o5 rb rd) = by_number (byte_name l b) rd rb (scaled b o5)
thumb_pieces at (operation.Format10 l o5 rb rd) = by_number (half_name l) rd rb (2 * o5)
thumb_pieces at (operation.Format11 l rd n8) = by_number (load_name l) rd 13 (4 * n8)
thumb_pieces at (operation.Format12 p rd n8) = two_number_pieces (codes "add") rd (if p then 13 else 15) (4 * n8)
thumb_pieces at (operation.Format13 s n7) = number_pieces (sum_name s) 13 (4 * n7)
thumb_pieces at (operation.Format14 l r list8) = Name (stack_name l) ∷ braces (stack_list l r list8)
thumb_pieces at (operation.Format15 l rb list8) = block_pieces l rb list8
thumb_pieces at (operation.Format16 cond n8) = branch_pieces (branch_name cond) (branch_target 128 at n8)
thumb_pieces at (operation.Format17 n8) = Name (codes "swi") ∷ immediate n8
thumb_pieces at (operation.Format18 n11) = branch_pieces (codes "b") (branch_target 1024 at n11)
thumb_pieces at (operation.Format19 second n11) = []

abbrev pub thumb_statement : ℕ → Option ThumbOp → List Piece
thumb_statement at (Some op) = thumb_pieces at op
thumb_statement at None = []

-- BL to where its two halves lead
unfoldable pub call_pieces : ℕ → ℕ → ℕ → List Piece
call_pieces at first second =
    branch_pieces (codes "bl") (branch_target 2097152 at (first % 2048 * 2048 + second % 2048))
