-- Which words are listed as statements.
use Rattle.std.proofs.Common.{◌≡◌, ◌≢◌, ◌<◌, ◌≤◌, ℕ, ◌+◌, ◌%◌, ◌^◌, Bool, true, false, not, ◌&&◌, ◌||◌, ◌==◌, IsTrue, List, [], ◌∷◌, ◌++◌, codes, Option, Some, None, IfSome, Ok, ℤ, refl, sym, ap, ◌∙◌, lit<, arith}
use Rattle.std.specs.Int.{w32, to_le_bytes}
use Rattle.std.specs.Str.{bytes_eq}
use Rattle.std.proofs.lemmas.Bool.Decides.{nat_tests}
use Rattle.std.proofs.lemmas.Slice.Eq.{bytes_eq-Decides}
use Rattle.gba_terms.specs.Bits.{field}
use Rattle.gba_text.proofs.Spans.{first_of_all, rest_of_all, negated}
use Rattle.gba_arm_table.specs.declared.operation.ArmOp.{ArmOp}
use Rattle.gba_arm_table.specs.declared.operation.ArmOp.TheVariants as op
use Rattle.gba_arm_table.specs.declared.operation.CompareOp.{CompareOp}
use Rattle.gba_arm_table.specs.declared.operation.CompareOp.TheVariants.{Tst, Teq, Cmp, Cmn}
use Rattle.gba_arm_table.specs.declared.operation.ComputeOp.{ComputeOp}
use Rattle.gba_arm_table.specs.declared.operation.ComputeOp.TheVariants.{And, Eor, Sub, Rsb, Add, Adc, Sbc, Rsc, Orr, Mov, Bic, Mvn}
use Rattle.gba_arm_table.specs.declared.operation.Condition.{Condition}
use Rattle.gba_arm_table.specs.declared.operation.HalfKind.{HalfKind}
use Rattle.gba_arm_table.specs.declared.operation.HalfKind.TheVariants.{StoreHalf, LoadHalf, LoadSignedByte, LoadSignedHalf}
use Rattle.gba_arm_table.specs.declared.operation.Operand.{Operand}
use Rattle.gba_arm_table.specs.Diagrams.{has_manual_bits}
use Rattle.gba_arm_table.specs.Encoding.{encoding}
use Rattle.gba_arm_table.specs.Limits.{Fits, Within, operand_immediates, operand_registers}
use Rattle.gba_arm_table.specs.Table.{operation}
use Rattle.gba_arm_table.proofs.Reading.{operation-Fits}
use Rattle.gba_arm_table.proofs.Writing.{encoding-operation}
use Rattle.gba_asm_words.specs.Readers.{Address}
use Rattle.gba_asm_words.specs.Tokens.{Token, Word, Mark}
use Rattle.gba_asm_arm.specs.Forms.{arm_statement, compute_form}
use Rattle.gba_asm_arm.specs.Placing.{operation_at, target_of}
use Rattle.gba_asm_arm.specs.Statement.{ArmStatement, Operation, Branch}
use Rattle.gba_asm.specs.Directives.{directive_of}
use Rattle.gba_asm.specs.Encoding.{address_in, arm_word, statement_bytes}
use Rattle.gba_asm.specs.Places.{fits, no_labels}
use Rattle.gba_asm.specs.Statements.{Arm, size_of, statement_of}
use Rattle.gba_asm.proofs.Lone.{Tells}
use Rattle.gba_dis.specs.declared.units.Unit.TheVariants as unit
use Rattle.gba_dis.specs.Arm.{arm_pieces, arm_statement as listed_statement, block_base, branch_base, branch_target, compare_text, compute_text, condition_text, first_operand, half_base, letters_if, long_base, second, transfer_base}
use Rattle.gba_dis.specs.Law.{TellsWords, is_arm_told, is_first_told, is_never, is_operand_told}
use Rattle.gba_dis.specs.Listing.{line_pieces, statement}
use Rattle.gba_dis.specs.Pieces.{Comma, digits_text, register, register_name}
use Rattle.gba_dis.proofs.ArmNames.{accumulate_named, b_named, bl_named, block_named, bx_named, compare_named, compute_named, half_named, long_named, mrs_named, msr_named, multiply_named, swap_named, swi_named, transfer_named}
use Rattle.gba_dis.proofs.ArmStatements.{accumulate_said, compare_said, exchange_said, interrupt_said, long_said, move_said, multiply_said, read_status_said, reg, swap_said, three_said}
use Rattle.gba_dis.proofs.ArmTransfers.{block_said, branch_back, branch_said, half_said, target_small, transfer_said, write_status_said}
use Rattle.gba_dis.proofs.Spelling.{tokens_of}
use Rattle.gba_dis.proofs.Told.{stated}
use Rattle.std.proofs.Common.{le-leb}

-- no directive begins with a letter
differs_by : (b : ℕ) (xs ys : List ℕ) (t : Bool) → bytes_eq (b ∷ xs) (46 ∷ ys) ≡ t → (b == 46) ≡ false → t ≡ false
differs_by b xs ys true e h =
    let same : b ∷ xs ≡ 46 ∷ ys = grind (arith, bytes_eq-Decides) in
    let first : b ≡ 46 = cc in
    absurd (grind (arith, nat_tests))
differs_by b xs ys false e h = refl

differs : (b : ℕ) (xs ys : List ℕ) → (b == 46) ≡ false → bytes_eq (b ∷ xs) (46 ∷ ys) ≡ false
differs b xs ys h = differs_by b xs ys (bytes_eq (b ∷ xs) (46 ∷ ys)) refl h

no_directive : (b : ℕ) (xs : List ℕ) → (b == 46) ≡ false → directive_of (b ∷ xs) ≡ None
unfolding directive_of
no_directive b xs h =
    rw (
      differs b xs (codes "arm") h,
      differs b xs (codes "thumb") h,
      differs b xs (codes "word") h,
      differs b xs (codes "half") h,
      differs b xs (codes "byte") h,
      differs b xs (codes "space") h,
      differs b xs (codes "align") h,
    ) refl

-- a name begins with a letter
record Starts (base : List ℕ) : Type 0 where
  first : ℕ
  rest : List ℕ
  split : base ≡ first ∷ rest
  letter : (first == 46) ≡ false

name_none : (base s t : List ℕ) → Starts base → directive_of (base ++ s ++ t) ≡ None
name_none base s t b = ap (λ x. directive_of (x ++ s ++ t)) b.split ∙ no_directive b.first (b.rest ++ s ++ t) b.letter

compute_starts : (o : ComputeOp) → Starts (compute_text o)
compute_starts And = record { first = 97; rest = codes "nd"; split = refl; letter = refl }
compute_starts Eor = record { first = 101; rest = codes "or"; split = refl; letter = refl }
compute_starts Sub = record { first = 115; rest = codes "ub"; split = refl; letter = refl }
compute_starts Rsb = record { first = 114; rest = codes "sb"; split = refl; letter = refl }
compute_starts Add = record { first = 97; rest = codes "dd"; split = refl; letter = refl }
compute_starts Adc = record { first = 97; rest = codes "dc"; split = refl; letter = refl }
compute_starts Sbc = record { first = 115; rest = codes "bc"; split = refl; letter = refl }
compute_starts Rsc = record { first = 114; rest = codes "sc"; split = refl; letter = refl }
compute_starts Orr = record { first = 111; rest = codes "rr"; split = refl; letter = refl }
compute_starts Mov = record { first = 109; rest = codes "ov"; split = refl; letter = refl }
compute_starts Bic = record { first = 98; rest = codes "ic"; split = refl; letter = refl }
compute_starts Mvn = record { first = 109; rest = codes "vn"; split = refl; letter = refl }

compare_starts : (o : CompareOp) → Starts (compare_text o)
compare_starts Tst = record { first = 116; rest = codes "st"; split = refl; letter = refl }
compare_starts Teq = record { first = 116; rest = codes "eq"; split = refl; letter = refl }
compare_starts Cmp = record { first = 99; rest = codes "mp"; split = refl; letter = refl }
compare_starts Cmn = record { first = 99; rest = codes "mn"; split = refl; letter = refl }

half_starts : (k : HalfKind) → Starts (half_base k)
half_starts StoreHalf = record { first = 115; rest = codes "tr"; split = refl; letter = refl }
half_starts LoadHalf = record { first = 108; rest = codes "dr"; split = refl; letter = refl }
half_starts LoadSignedByte = record { first = 108; rest = codes "dr"; split = refl; letter = refl }
half_starts LoadSignedHalf = record { first = 108; rest = codes "dr"; split = refl; letter = refl }

transfer_starts : (l : Bool) → Starts (transfer_base l)
transfer_starts true = record { first = 108; rest = codes "dr"; split = refl; letter = refl }
transfer_starts false = record { first = 115; rest = codes "tr"; split = refl; letter = refl }

block_starts : (l : Bool) → Starts (block_base l)
block_starts true = record { first = 108; rest = codes "dm"; split = refl; letter = refl }
block_starts false = record { first = 115; rest = codes "tm"; split = refl; letter = refl }

branch_starts : (l : Bool) → Starts (branch_base l)
branch_starts true = record { first = 98; rest = codes "l"; split = refl; letter = refl }
branch_starts false = record { first = 98; rest = codes ""; split = refl; letter = refl }

long_starts : (s a : Bool) → Starts (long_base s a)
long_starts false false = record { first = 117; rest = codes "mull"; split = refl; letter = refl }
long_starts false true = record { first = 117; rest = codes "mlal"; split = refl; letter = refl }
long_starts true false = record { first = 115; rest = codes "mull"; split = refl; letter = refl }
long_starts true true = record { first = 115; rest = codes "mlal"; split = refl; letter = refl }

machine_said : (word : List ℕ) (ts : List Token) (s : ArmStatement) → directive_of word ≡ None
    → arm_statement word ts ≡ Ok s → statement_of false (Word word ∷ ts) ≡ Ok (Arm s)
unfolding statement_of
machine_said word ts s none h = rw (none, h) refl

word_given : (at target word : ℕ) (s : ArmStatement) (o : ArmOp) → address_in no_labels (target_of s) ≡ Ok target
    → operation_at at target s ≡ Some o → encoding o ≡ Ok word → at % 4 ≡ 0
    → statement_bytes no_labels at (Arm s) ≡ Ok (to_le_bytes w32 word)
unfolding statement_bytes arm_word
word_given at target word s o t p e a = rw (t, a, p, e) refl

arm_line : (at target word : ℕ) (name : List ℕ) (ts : List Token) (s : ArmStatement) (o : ArmOp)
    → directive_of name ≡ None → arm_statement name ts ≡ Ok s → address_in no_labels (target_of s) ≡ Ok target
    → operation_at at target s ≡ Some o → encoding o ≡ Ok word → at % 4 ≡ 0 → at + 4 ≤ 33554432
    → Tells false at (Word name ∷ ts) (to_le_bytes w32 word)
unfolding size_of
arm_line at target word name ts s o none h t p e a room = record {
  statement = Arm s;
  said = machine_said name ts s none h;
  inside = le-leb _ _ room;
  given = word_given at target word s o t p e a;
}

-- a statement that says an operation
plain_line : (at word : ℕ) (name : List ℕ) (ts : List Token) (o : ArmOp) → directive_of name ≡ None
    → arm_statement name ts ≡ Ok (Operation (Some o)) → encoding o ≡ Ok word → at % 4 ≡ 0 → at + 4 ≤ 33554432
    → Tells false at (Word name ∷ ts) (to_le_bytes w32 word)
unfolding operation_at
plain_line at word name ts o none h e a room =
    arm_line at 0 word name ts (Operation (Some o)) o none h refl refl e a room

compute_said : (c : Condition) (o : ComputeOp) (set : Bool) (rn rd : ℕ) (x : Operand) → rn < 16 → rd < 16
    → Within (operand_registers x) → Within (operand_immediates x) → is_first_told o rn ≡ true
    → is_operand_told x ≡ true → compute_form c o set (reg rd ∷ Mark 44 ∷ tokens_of (first_operand o rn ++ second x))
    ≡ Ok (Operation (Some (op.Compute c o set rn rd x)))
compute_said c And set rn rd x h k r i first told = three_said c And set rn rd x h k r i told
compute_said c Eor set rn rd x h k r i first told = three_said c Eor set rn rd x h k r i told
compute_said c Sub set rn rd x h k r i first told = three_said c Sub set rn rd x h k r i told
compute_said c Rsb set rn rd x h k r i first told = three_said c Rsb set rn rd x h k r i told
compute_said c Add set rn rd x h k r i first told = three_said c Add set rn rd x h k r i told
compute_said c Adc set rn rd x h k r i first told = three_said c Adc set rn rd x h k r i told
compute_said c Sbc set rn rd x h k r i first told = three_said c Sbc set rn rd x h k r i told
compute_said c Rsc set rn rd x h k r i first told = three_said c Rsc set rn rd x h k r i told
compute_said c Orr set rn rd x h k r i first told = three_said c Orr set rn rd x h k r i told
compute_said c Mov set rn rd x h k r i first told =
    let none : rn ≡ 0 = grind (arith, nat_tests) in
    rw none (move_said c Mov set rd x k r i told)
compute_said c Bic set rn rd x h k r i first told = three_said c Bic set rn rd x h k r i told
compute_said c Mvn set rn rd x h k r i first told =
    let none : rn ≡ 0 = grind (arith, nat_tests) in
    rw none (move_said c Mvn set rd x k r i told)

branch_named : (c : Condition) (link : Bool) (target : ℕ) → is_never c ≡ false → target < 2 ^ 32
    → arm_statement (branch_base link ++ condition_text c ++ []) (Word (digits_text 8 target) ∷ [])
    ≡ Ok (Branch c link (Address target))
branch_named c true target n h = bl_named c _ n ∙ branch_said c true target h
branch_named c false target n h = b_named c _ n ∙ branch_said c false target h

branch_line : (at word : ℕ) (c : Condition) (link : Bool) (offset : ℤ) → is_never c ≡ false
    → Fits (op.Branch c link offset) → encoding (op.Branch c link offset) ≡ Ok word → at % 4 ≡ 0 → at + 4 ≤ 33554432
    → Tells false at (Word (branch_base link ++ condition_text c ++ []) ∷ Word (digits_text 8 (branch_target at offset))
    ∷ [])
    (to_le_bytes w32 word)
unfolding operation_at
branch_line at word c link offset n f e a room =
    let target = branch_target at offset in
    arm_line at target word (branch_base link ++ condition_text c ++ []) (Word (digits_text 8 target) ∷ [])
    (Branch c link (Address target))
    (op.Branch c link offset) (name_none (branch_base link) (condition_text c) [] (branch_starts link))
    (branch_named c link target n (target_small at offset)) refl
    (branch_back at c link offset (omega arith) f.offsets.0) e a room

unused : (rn : ℕ) → (false || rn == 0) ≡ true → rn ≡ 0
unused rn h = grind (arith, nat_tests)

-- the statement of an operation that it says comes to its word
pub arm_tells : (at word : ℕ) (o : ArmOp) → Fits o → is_arm_told o ≡ true → encoding o ≡ Ok word → at % 4 ≡ 0
    → at + 4 ≤ 33554432 → Tells false at (tokens_of (arm_pieces at o)) (to_le_bytes w32 word)
unfolding arm_pieces
arm_tells at word (op.Exchange c rm) f told e a room =
    plain_line at word _ _ _ (name_none (codes "bx") (condition_text c) []
    (record { first = 98; rest = codes "x"; split = refl; letter = refl }))
    (bx_named c _ (negated _ told) ∙ exchange_said c rm f.registers.0) e a room
arm_tells at word (op.Multiply c false set rd rn rs rm) f told e a room =
    let never = negated _ (first_of_all _ _ told) in
    let none : rn ≡ 0 = unused rn (rest_of_all (not (is_never c)) _ told) in
    let e0 : encoding (op.Multiply c false set rd 0 rs rm) ≡ Ok word = rw none at e in
    plain_line at word _ _ _ (name_none (codes "mul") (condition_text c) (letters_if set (codes "s"))
    (record { first = 109; rest = codes "ul"; split = refl; letter = refl }))
    (multiply_named c set _ never ∙ multiply_said c set rd rs rm f.registers.0 f.registers.1.1.0 f.registers.1.1.1.0)
    e0 a room
arm_tells at word (op.Multiply c true set rd rn rs rm) f told e a room =
    let never = negated _ (first_of_all _ _ told) in
    plain_line at word _ _ _ (name_none (codes "mla") (condition_text c) (letters_if set (codes "s"))
    (record { first = 109; rest = codes "la"; split = refl; letter = refl }))
    (accumulate_named c set _ never ∙ accumulate_said c set rd rn rs rm f.registers.0 f.registers.1.0 f.registers.1.1.0
    f.registers.1.1.1.0) e a room
arm_tells at word (op.MultiplyLong c signed accumulate set hi lo rs rm) f told e a room =
    plain_line at word _ _ _ (name_none (long_base signed accumulate) (condition_text c) (letters_if set (codes "s"))
    (long_starts
    signed accumulate))
    (long_named c signed accumulate set _ (negated _ told)
    ∙ long_said c signed accumulate set hi lo rs rm f.registers.0 f.registers.1.0
    f.registers.1.1.0 f.registers.1.1.1.0) e a room
arm_tells at word (op.Swap c byte rn rd rm) f told e a room =
    plain_line at word _ _ _ (name_none (codes "swp") (condition_text c) (letters_if byte (codes "b"))
    (record { first = 115; rest = codes "wp"; split = refl; letter = refl }))
    (swap_named c byte _ (negated _ told) ∙ swap_said c byte rn rd rm f.registers.0 f.registers.1.0 f.registers.1.1.0)
    e a room
arm_tells at word (op.Half c kind pre up write rn rd offset) f told e a room =
    let never = negated _ (first_of_all _ _ told) in
    plain_line at word _ _ _ (name_none (half_base kind) (condition_text c) _ (half_starts kind))
    (half_named c kind _ never
    ∙ half_said c kind pre up write rn rd offset f.registers.0 f.registers.1.0 f.registers.1.1 f.offsets
    (rest_of_all (not (is_never c)) _ told)) e a room
arm_tells at word (op.ReadStatus c saved rd) f told e a room =
    plain_line at word _ _ _ (name_none (codes "mrs") (condition_text c) []
    (record { first = 109; rest = codes "rs"; split = refl; letter = refl }))
    (mrs_named c _ (negated _ told) ∙ read_status_said c saved rd f.registers.0) e a room
arm_tells at word (op.WriteStatus c saved fields source) f told e a room =
    let never = negated _ (first_of_all _ _ told) in
    let both = rest_of_all (not (is_never c)) _ told in
    plain_line at word _ _ _ (name_none (codes "msr") (condition_text c) []
    (record { first = 109; rest = codes "sr"; split = refl; letter = refl }))
    (msr_named c _ never
    ∙ write_status_said c saved fields source f.immediates.0 (negated _ (first_of_all _ _ both)) f.registers
    f.immediates.1 (rest_of_all (not (fields == 0)) _ both)) e a room
arm_tells at word (op.Compute c o set rn rd operand) f told e a room =
    let never = negated _ (first_of_all _ _ told) in
    let both = rest_of_all (not (is_never c)) _ told in
    plain_line at word _ _ _
    (name_none (compute_text o) (condition_text c) (letters_if set (codes "s")) (compute_starts o))
    (compute_named c o set _ never
    ∙ compute_said c o set rn rd operand f.registers.0 f.registers.1.0 f.registers.1.1 f.immediates
    (first_of_all _ _ both) (rest_of_all (is_first_told o rn) _ both)) e a room
arm_tells at word (op.Compare c o rn operand) f told e a room =
    let never = negated _ (first_of_all _ _ told) in
    plain_line at word _ _ _ (name_none (compare_text o) (condition_text c) [] (compare_starts o))
    (compare_named c o _ never
    ∙ compare_said c o rn operand f.registers.0 f.registers.1 f.immediates (rest_of_all (not (is_never c)) _
    told)) e a room
arm_tells at word (op.Transfer c load byte pre up write rn rd offset) f told e a room =
    plain_line at word _ _ _ (name_none (transfer_base load) (condition_text c) _ (transfer_starts load))
    (transfer_named c load byte (not pre && write) _ (negated _ told)
    ∙ transfer_said c load byte pre up write rn rd offset
    f.registers.0 f.registers.1.0 f.registers.1.1 f.immediates f.offsets) e a room
arm_tells at word (op.Block c load pre up user write rn list) f told e a room =
    plain_line at word _ _ _ (name_none (block_base load) (condition_text c) _ (block_starts load))
    (block_named c load pre up _ (negated _ told)
    ∙ block_said c load pre up user write rn list f.registers.0 f.immediates.0) e a room
arm_tells at word (op.Branch c link offset) f told e a room =
    branch_line at word c link offset (negated _ told) f e a room
arm_tells at word (op.Interrupt c comment) f told e a room =
    plain_line at word _ _ _ (name_none (codes "swi") (condition_text c) []
    (record { first = 115; rest = codes "wi"; split = refl; letter = refl }))
    (swi_named c _ (negated _ told) ∙ interrupt_said c comment f.immediates.0) e a room

word_by : (at word : ℕ) (o : Option ArmOp) → operation word ≡ o → IfSome o Fits
    → IfSome o (λ x. IsTrue (has_manual_bits x (field word)) → encoding x ≡ Ok word) → at % 4 ≡ 0 → at + 4 ≤ 33554432
    → IfSome o (λ x. IsTrue (has_manual_bits x (field word)) → IsTrue (is_arm_told x)
    → line_pieces false at (unit.Word word) ≡ arm_pieces at x)
word_by at word None e f back a room = tt
word_by at word (Some o) e f back a room = λ bits say.
    let is : statement at (unit.Word word) ≡ arm_pieces at o = ap (listed_statement at) e in
    let yes : is_arm_told o ≡ true = grind (arith, nat_tests) in
    let t : Tells false at (tokens_of (statement at (unit.Word word))) (to_le_bytes w32 word) =
    rw is (arm_tells at word o f yes (back bits) a room) in
    stated false at (unit.Word word) t ∙ is

pub words_told : TellsWords
words_told at word h a room =
    word_by at word (operation word) refl (operation-Fits word) (encoding-operation word h) a room
