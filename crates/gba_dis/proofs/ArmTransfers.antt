-- The assembler takes the statement of an ARM transfer, a block, a branch and MSR to that operation.
use Rattle.std.proofs.Common.{◌≡◌, ◌<◌, ◌≤◌, ℕ, zero, suc, ◌+◌, ◌*◌, ◌-◌, ◌/◌, ◌%◌, ◌^◌, Bool, true, false, cond, not, ◌&&◌, ◌||◌, ◌==◌, nat_lt, List, [], ◌∷◌, ◌++◌, codes, Option, Some, None, option_map, Result, Ok, ℤ, pos, negsuc, refl, sym, ap, ◌∙◌, lt-ltb, le-leb, lit<, lit≤, arith}
use Rattle.std.specs.Int.{w32, cast_unsigned}
use Rattle.std.proofs.lemmas.Bool.Decides.{nat_tests}
use Rattle.std.proofs.lemmas.Nat.{mod_below}
use Rattle.gba_word.specs.declared.kinds.Shift.{Shift}
use Rattle.gba_word.specs.declared.kinds.Shift.TheVariants.{Lsl, Lsr, Asr, Ror}
use Rattle.gba_arm_table.specs.declared.operation.ArmOp.TheVariants as op
use Rattle.gba_arm_table.specs.declared.operation.Condition.{Condition}
use Rattle.gba_arm_table.specs.declared.operation.HalfKind.{HalfKind}
use Rattle.gba_arm_table.specs.declared.operation.HalfOffset.{HalfOffset}
use Rattle.gba_arm_table.specs.declared.operation.HalfOffset.TheVariants as half
use Rattle.gba_arm_table.specs.declared.operation.Source.{Source}
use Rattle.gba_arm_table.specs.declared.operation.Source.TheVariants as source
use Rattle.gba_arm_table.specs.declared.operation.TransferOffset.{TransferOffset}
use Rattle.gba_arm_table.specs.declared.operation.TransferOffset.TheVariants as transfer_offset
use Rattle.gba_arm_table.specs.Limits as limits
use Rattle.gba_arm_table.specs.Limits.{Within, half_offsets, half_registers, source_immediates, source_registers, transfer_immediates, transfer_offsets, transfer_registers}
use Rattle.gba_text.specs.Steps.{taken}
use Rattle.gba_asm_words.specs.Readers.{Address, begins}
use Rattle.gba_asm_words.specs.Tokens.{Token, Word, Mark}
use Rattle.gba_asm_arm.specs.Forms.{access_form, block_form, branch_form, half_form, transfer_form, write_status_form}
use Rattle.gba_asm_arm.specs.Operands.{amount_of, fields_of, immediate_source, least_turn, saved_of, shift_name_at, shift_name_of, source_at, status_at, status_of}
use Rattle.gba_asm_arm.specs.Placing as placing
use Rattle.gba_asm_arm.specs.Statement.{Operation, Branch}
use Rattle.gba_asm_arm.specs.Transfers as transfers
use Rattle.gba_asm_arm.specs.Transfers.{address_at, after_access, distance, distance_at, in_brackets, indexed, number_distance, past_bracket, register_distance, register_offset, shifted_offset}
use Rattle.gba_dis.specs.Arm.{address, block_mark, branch_target, close_address, fields_text, half_distance, open_address, or_32, shift_pieces, shift_text, shifted, source_pieces, status_text, transfer_distance, turned, user_mark}
use Rattle.gba_dis.specs.Arm.{number_distance as listed_distance}
use Rattle.gba_dis.specs.Law.{is_source, is_source_told}
use Rattle.gba_dis.specs.Pieces.{Piece, Comma, Plain, braces, digits_text, number_text, register_name}
use Rattle.gba_dis.proofs.ArmStatements.{amount_by, reg, num, small_by, turned_small}
use Rattle.gba_dis.proofs.Readers.{address_read, immediate_read, number_read, register_read}
use Rattle.gba_dis.proofs.RegisterLists.{list_read, tokens_append}
use Rattle.gba_dis.proofs.Spelling.{tokens_of}

-- MSR
source_is : (o : Option Source) (value turn : ℕ) → is_source o value turn ≡ true
    → o ≡ Some (source.Immediate value turn)
source_is (Some (source.Immediate v t)) value turn h =
    let a : v ≡ value = grind (arith, nat_tests) in
    let b : t ≡ turn = grind (arith, nat_tests) in
    cc
source_is (Some (source.Plain rm)) value turn h = absurd cc
source_is None value turn h = absurd cc

source_said : (s : Source) → Within (source_registers s) → Within (source_immediates s) → is_source_told s ≡ true
    → source_at (tokens_of (source_pieces s)) ≡ Ok (taken (Some s) [])
unfolding source_at
source_said (source.Immediate value turn) r h told =
    rw (number_read (turned value turn) _ (turned_small value turn h.1.0))
    (ap (λ x. Ok (taken x [])) (source_is (immediate_source (least_turn (turned value turn))) value turn told))
source_said (source.Plain rm) r h told = rw (register_read rm _ r.0) refl

fields_said : (c : Condition) (saved : Bool) (fields : ℕ) (ts : List Token) (s : Source) → fields < 16
    → (fields == 0) ≡ false → source_at ts ≡ Ok (taken (Some s) [])
    → write_status_form c (Word (status_text saved ++ fields_text fields) ∷ Mark 44 ∷ ts)
    ≡ Ok (Operation (Some (op.WriteStatus c saved fields s)))
unfolding write_status_form status_at status_of saved_of fields_of
fields_said c saved zero ts s h none e = absurd cc
fields_said c true (suc zero) ts s h none e = rw e refl
fields_said c false (suc zero) ts s h none e = rw e refl
fields_said c true (suc (suc zero)) ts s h none e = rw e refl
fields_said c false (suc (suc zero)) ts s h none e = rw e refl
fields_said c true (suc (suc (suc zero))) ts s h none e = rw e refl
fields_said c false (suc (suc (suc zero))) ts s h none e = rw e refl
fields_said c true (suc (suc (suc (suc zero)))) ts s h none e = rw e refl
fields_said c false (suc (suc (suc (suc zero)))) ts s h none e = rw e refl
fields_said c true (suc (suc (suc (suc (suc zero))))) ts s h none e = rw e refl
fields_said c false (suc (suc (suc (suc (suc zero))))) ts s h none e = rw e refl
fields_said c true (suc (suc (suc (suc (suc (suc zero)))))) ts s h none e = rw e refl
fields_said c false (suc (suc (suc (suc (suc (suc zero)))))) ts s h none e = rw e refl
fields_said c true (suc (suc (suc (suc (suc (suc (suc zero))))))) ts s h none e = rw e refl
fields_said c false (suc (suc (suc (suc (suc (suc (suc zero))))))) ts s h none e = rw e refl
fields_said c true (suc (suc (suc (suc (suc (suc (suc (suc zero)))))))) ts s h none e = rw e refl
fields_said c false (suc (suc (suc (suc (suc (suc (suc (suc zero)))))))) ts s h none e = rw e refl
fields_said c true (suc (suc (suc (suc (suc (suc (suc (suc (suc zero))))))))) ts s h none e = rw e refl
fields_said c false (suc (suc (suc (suc (suc (suc (suc (suc (suc zero))))))))) ts s h none e = rw e refl
fields_said c true (suc (suc (suc (suc (suc (suc (suc (suc (suc (suc zero)))))))))) ts s h none e = rw e refl
fields_said c false (suc (suc (suc (suc (suc (suc (suc (suc (suc (suc zero)))))))))) ts s h none e = rw e refl
fields_said c true (suc (suc (suc (suc (suc (suc (suc (suc (suc (suc (suc zero))))))))))) ts s h none e = rw e refl
fields_said c false (suc (suc (suc (suc (suc (suc (suc (suc (suc (suc (suc zero))))))))))) ts s h none e = rw e refl
fields_said c true (suc (suc (suc (suc (suc (suc (suc (suc (suc (suc (suc (suc zero)))))))))))) ts s h none e =
    rw e refl
fields_said c false (suc (suc (suc (suc (suc (suc (suc (suc (suc (suc (suc (suc zero)))))))))))) ts s h none e =
    rw e refl
fields_said c true (suc (suc (suc (suc (suc (suc (suc (suc (suc (suc (suc (suc (suc zero))))))))))))) ts s h none e =
    rw e refl
fields_said c false (suc (suc (suc (suc (suc (suc (suc (suc (suc (suc (suc (suc (suc zero))))))))))))) ts s h none e =
    rw e refl
fields_said c true (suc (suc (suc (suc (suc (suc (suc (suc (suc (suc (suc (suc (suc (suc zero)))))))))))))) ts s h none
    e = rw e refl
fields_said c false (suc (suc (suc (suc (suc (suc (suc (suc (suc (suc (suc (suc (suc (suc zero)))))))))))))) ts s h none
    e = rw e refl
fields_said c true (suc (suc (suc (suc (suc (suc (suc (suc (suc (suc (suc (suc (suc (suc (suc zero))))))))))))))) ts s h
    none e = rw e refl
fields_said c false (suc (suc (suc (suc (suc (suc (suc (suc (suc (suc (suc (suc (suc (suc (suc zero))))))))))))))) ts s
    h none e = rw e refl
fields_said c saved (suc (suc (suc (suc (suc (suc (suc (suc (suc (suc (suc (suc (suc (suc (suc (suc n)))))))))))))))) ts
    s h none e = absurd (omega arith)

pub write_status_said : (c : Condition) (saved : Bool) (fields : ℕ) (s : Source) → fields < 16 → (fields == 0) ≡ false
    → Within (source_registers s) → Within (source_immediates s) → is_source_told s ≡ true
    → write_status_form c (Word (status_text saved ++ fields_text fields) ∷ Mark 44 ∷ tokens_of (source_pieces s))
    ≡ Ok (Operation (Some (op.WriteStatus c saved fields s)))
write_status_said c saved fields s h none r i told =
    fields_said c saved fields (tokens_of (source_pieces s)) s h none (source_said s r i told)

-- a register's shift, before other tokens
named_offset : (kind : Shift) (rm n amount : ℕ) (rest : List Token) → n < 2 ^ 32 → amount_of kind n ≡ Some amount
    → register_offset true rm (Mark 44 ∷ Word (shift_text kind) ∷ Mark 35 ∷ num n ∷ rest)
    ≡ Ok (taken (Some (transfer_offset.Shifted rm kind amount)) rest)
unfolding register_offset shift_name_at shift_name_of shifted_offset
named_offset Lsl rm n amount rest h e = rw (immediate_read n rest h, e) refl
named_offset Lsr rm n amount rest h e = rw (immediate_read n rest h, e) refl
named_offset Asr rm n amount rest h e = rw (immediate_read n rest h, e) refl
named_offset Ror rm n amount rest h e = rw (immediate_read n rest h, e) refl

lsl_offset : (rm amount : ℕ) (rest : List Token) (t : Bool) → (amount == 0) ≡ t → amount < 32 → begins 44 rest ≡ false
    → register_offset true rm (tokens_of (cond t [] (shifted Lsl amount)) ++ rest)
    ≡ Ok (taken (Some (transfer_offset.Shifted rm Lsl amount)) rest)
unfolding register_offset
lsl_offset rm amount rest true e h last =
    let none : amount ≡ 0 = grind (arith, nat_tests) in
    rw (none, last) refl
lsl_offset rm amount rest false e h last =
    named_offset Lsl rm amount amount rest (omega (arith, h)) (rw (lt-ltb _ _ h) refl)

ror_offset : (rm amount : ℕ) (rest : List Token) (t : Bool) → (amount == 0) ≡ t → amount < 32
    → register_offset true rm (tokens_of (cond t (Comma ∷ Plain (codes "rrx") ∷ []) (shifted Ror amount)) ++ rest)
    ≡ Ok (taken (Some (transfer_offset.Shifted rm Ror amount)) rest)
unfolding register_offset shift_name_at shift_name_of shifted_offset
ror_offset rm amount rest true e h =
    let none : amount ≡ 0 = grind (arith, nat_tests) in
    rw none refl
ror_offset rm amount rest false e h = named_offset Ror rm amount amount rest (omega (arith, h)) (rw (lt-ltb _ _ h) refl)

shift_offset : (kind : Shift) (rm amount : ℕ) (rest : List Token) → amount < 32 → begins 44 rest ≡ false
    → register_offset true rm (tokens_of (shift_pieces kind amount) ++ rest)
    ≡ Ok (taken (Some (transfer_offset.Shifted rm kind amount)) rest)
shift_offset Lsl rm amount rest h last = lsl_offset rm amount rest (amount == 0) refl h last
shift_offset Lsr rm amount rest h last =
    named_offset Lsr rm (or_32 amount) amount rest (small_by amount (amount == 0) h)
    (amount_by amount (amount == 0) refl h)
shift_offset Asr rm amount rest h last =
    named_offset Asr rm (or_32 amount) amount rest (small_by amount (amount == 0) h)
    (amount_by amount (amount == 0) refl h)
shift_offset Ror rm amount rest h last = ror_offset rm amount rest (amount == 0) refl h

number_read_distance : (shifts up : Bool) (value : ℕ) (rest : List Token) → value < 2 ^ 32
    → distance_at shifts (tokens_of (listed_distance up value) ++ rest)
    ≡ Ok (taken (distance up (Some (transfer_offset.Number value))) rest)
unfolding distance_at number_distance
number_read_distance shifts true value rest h = rw (number_read value rest h) refl
number_read_distance shifts false value rest h = rw (number_read value rest h) refl

distance_read : (up : Bool) (offset : TransferOffset) (rest : List Token) → begins 44 rest ≡ false
    → Within (transfer_registers offset) → Within (transfer_immediates offset) → Within (transfer_offsets offset)
    → distance_at true (tokens_of (transfer_distance up offset) ++ rest) ≡ Ok (taken (distance up (Some offset)) rest)
unfolding transfer_distance distance_at register_distance
distance_read up (transfer_offset.Number value) rest last r i o =
    number_read_distance true up value rest (omega (arith, o.0))
distance_read true (transfer_offset.Shifted rm kind amount) rest last r i o =
    rw (register_read rm (tokens_of (shift_pieces kind amount) ++ rest) r.0, shift_offset kind rm amount rest i.0 last)
    refl
distance_read false (transfer_offset.Shifted rm kind amount) rest last r i o =
    rw (register_read rm (tokens_of (shift_pieces kind amount) ++ rest) r.0, shift_offset kind rm amount rest i.0 last)
    refl

-- an offset of a halfword's transfer as it is read
as_transfer : HalfOffset → TransferOffset
as_transfer (half.Number value) = transfer_offset.Number value
as_transfer (half.Plain rm) = transfer_offset.Shifted rm Lsl 0

half_distance_read : (up : Bool) (offset : HalfOffset) (rest : List Token) → Within (half_registers offset)
    → Within (half_offsets offset)
    → distance_at false (tokens_of (half_distance up offset) ++ rest)
    ≡ Ok (taken (distance up (Some (as_transfer offset))) rest)
unfolding half_distance distance_at register_distance register_offset as_transfer
half_distance_read up (half.Number value) rest r o = number_read_distance false up value rest (omega (arith, o.0))
half_distance_read true (half.Plain rm) rest r o = rw (register_read rm rest r.0) refl
half_distance_read false (half.Plain rm) rest r o = rw (register_read rm rest r.0) refl

address_tokens : (pre write : Bool) (rn : ℕ) (ds : List Piece)
    → tokens_of (address pre write rn ds)
    ≡ tokens_of (open_address pre rn) ++ (tokens_of ds ++ tokens_of (close_address pre write))
address_tokens pre write rn ds =
    tokens_append (open_address pre rn) (ds ++ close_address pre write)
    ∙ ap (λ ts. tokens_of (open_address pre rn) ++ ts) (tokens_append ds (close_address pre write))

-- an address whose distance is read
address_by : (shifts pre write up : Bool) (rn : ℕ) (ts : List Token) (o : TransferOffset) → rn < 16
    → ((rest : List Token) → begins 44 rest ≡ false
    → distance_at shifts (ts ++ rest) ≡ Ok (taken (distance up (Some o)) rest))
    → address_at shifts (tokens_of (open_address pre rn) ++ (ts ++ tokens_of (close_address pre write)))
    ≡ Ok (taken (transfers.address rn pre (pre && write) (distance up (Some o))) [])
unfolding open_address close_address address_at in_brackets indexed past_bracket after_access
address_by shifts true true up rn ts o h d =
    rw (register_read rn (Mark 44 ∷ (ts ++ Mark 93 ∷ Mark 33 ∷ [])) h, d (Mark 93 ∷ Mark 33 ∷ []) refl) refl
address_by shifts true false up rn ts o h d =
    rw (register_read rn (Mark 44 ∷ (ts ++ Mark 93 ∷ [])) h, d (Mark 93 ∷ []) refl) refl
address_by shifts false write up rn ts o h d = rw (register_read rn (Mark 93 ∷ Mark 44 ∷ (ts ++ [])) h, d [] refl) refl

and_false : (t : Bool) → (t && false) ≡ false
and_false true = refl
and_false false = refl

access_said : (c : Condition) (load byte pre up write : Bool) (rn rd : ℕ) (ts : List Token) (o : TransferOffset)
    → address_at true ts ≡ Ok (taken (transfers.address rn pre (pre && write) (distance up (Some o))) [])
    → access_form c load byte (not pre && write) rd ts
    ≡ Ok (Operation (Some (op.Transfer c load byte pre up write rn rd o)))
unfolding access_form
access_said c load byte true up true rn rd ts o e = rw e refl
access_said c load byte true up false rn rd ts o e = rw e refl
access_said c load byte false up true rn rd ts o e = rw e refl
access_said c load byte false up false rn rd ts o e = rw e refl

accessed : (c : Condition) (load byte user : Bool) (rd : ℕ) (ts : List Token) → rd < 16 → begins 91 ts ≡ true
    → transfer_form c load byte user (reg rd ∷ Mark 44 ∷ ts) ≡ access_form c load byte user rd ts
unfolding transfer_form
accessed c load byte user rd ts h e =
    rw (register_read rd (Mark 44 ∷ ts) h, e, and_false (load && not byte && not user)) refl

opens : (pre : Bool) (rn : ℕ) (ts : List Token) → begins 91 (tokens_of (open_address pre rn) ++ ts) ≡ true
unfolding open_address
opens true rn ts = refl
opens false rn ts = refl

pub transfer_said : (c : Condition) (load byte pre up write : Bool) (rn rd : ℕ) (o : TransferOffset) → rn < 16 → rd < 16
    → Within (transfer_registers o) → Within (transfer_immediates o) → Within (transfer_offsets o)
    → transfer_form c load byte (not pre && write)
    (reg rd ∷ Mark 44 ∷ tokens_of (address pre write rn (transfer_distance up o)))
    ≡ Ok (Operation (Some (op.Transfer c load byte pre up write rn rd o)))
transfer_said c load byte pre up write rn rd o h k r i l =
    let ds = transfer_distance up o in
    let tail = tokens_of ds ++ tokens_of (close_address pre write) in
    ap (λ ts. transfer_form c load byte (not pre && write) (reg rd ∷ Mark 44 ∷ ts)) (address_tokens pre write rn ds)
    ∙ accessed c load byte (not pre && write) rd (tokens_of (open_address pre rn) ++ tail) k (opens pre rn tail)
    ∙ access_said c load byte pre up write rn rd (tokens_of (open_address pre rn) ++ tail) o
    (address_by true pre write up rn (tokens_of ds) o h (λ rest last. distance_read up o rest last r i l))

halved : (c : Condition) (kind : HalfKind) (pre up write : Bool) (rn rd : ℕ) (ts : List Token) (o : HalfOffset)
    → rd < 16 → (pre || not write) ≡ true
    → address_at false ts ≡ Ok (taken (transfers.address rn pre (pre && write) (distance up (Some (as_transfer o)))) [])
    → half_form c kind (reg rd ∷ Mark 44 ∷ ts) ≡ Ok (Operation (Some (op.Half c kind pre up write rn rd o)))
unfolding half_form as_transfer
halved c kind true up write rn rd ts (half.Number value) h told e = rw (register_read rd (Mark 44 ∷ ts) h, e) refl
halved c kind true up write rn rd ts (half.Plain rm) h told e = rw (register_read rd (Mark 44 ∷ ts) h, e) refl
halved c kind false up true rn rd ts o h told e = absurd cc
halved c kind false up false rn rd ts (half.Number value) h told e = rw (register_read rd (Mark 44 ∷ ts) h, e) refl
halved c kind false up false rn rd ts (half.Plain rm) h told e = rw (register_read rd (Mark 44 ∷ ts) h, e) refl

pub half_said : (c : Condition) (kind : HalfKind) (pre up write : Bool) (rn rd : ℕ) (o : HalfOffset) → rn < 16 → rd < 16
    → Within (half_registers o) → Within (half_offsets o) → (pre || not write) ≡ true
    → half_form c kind (reg rd ∷ Mark 44 ∷ tokens_of (address pre write rn (half_distance up o)))
    ≡ Ok (Operation (Some (op.Half c kind pre up write rn rd o)))
half_said c kind pre up write rn rd o h k r l told =
    let ds = half_distance up o in
    let tail = tokens_of ds ++ tokens_of (close_address pre write) in
    ap (λ ts. half_form c kind (reg rd ∷ Mark 44 ∷ ts)) (address_tokens pre write rn ds)
    ∙ halved c kind pre up write rn rd (tokens_of (open_address pre rn) ++ tail) o k told
    (address_by false pre write up rn (tokens_of ds) (as_transfer o) h (λ rest last. half_distance_read up o rest r l))

pub block_said : (c : Condition) (load pre up user write : Bool) (rn list : ℕ) → rn < 16 → list < 2 ^ 16
    → block_form c load pre up (reg rn ∷ tokens_of (block_mark write ++ (braces list ++ user_mark user)))
    ≡ Ok (Operation (Some (op.Block c load pre up user write rn list)))
unfolding block_form block_mark user_mark
block_said c load pre up true true rn list h k =
    rw (register_read rn _ h, list_read list (user_mark true) k) refl
block_said c load pre up true false rn list h k =
    rw (register_read rn _ h, list_read list (user_mark true) k) refl
block_said c load pre up false true rn list h k =
    rw (register_read rn _ h, list_read list (user_mark false) k) refl
block_said c load pre up false false rn list h k =
    rw (register_read rn _ h, list_read list (user_mark false) k) refl

-- branches
pub target_small : (at : ℕ) (offset : ℤ) → branch_target at offset < 2 ^ 32
target_small at offset = mod_below (at + 8 + 4 * cast_unsigned w32 offset) (2 ^ 32) (lit< tt)

pub branch_said : (c : Condition) (link : Bool) (target : ℕ) → target < 2 ^ 32
    → branch_form c link (Word (digits_text 8 target) ∷ []) ≡ Ok (Branch c link (Address target))
unfolding branch_form
branch_said c link target h = rw (address_read target _ h) refl

words_by : (c : Condition) (link : Bool) (d : ℕ) (offset : ℤ) → d % 4 ≡ 0 → placing.words_of d ≡ offset
    → placing.branch c link d ≡ Some (op.Branch c link offset)
words_by c link d offset e f = rw (e, f) refl

ahead : (d : ℕ) → d < 2 ^ 31 → placing.words_of d ≡ pos (d / 4)
ahead d h = rw (lt-ltb _ _ h) refl

behind : (d : ℕ) → 2 ^ 31 ≤ d → placing.words_of d ≡ negsuc ((2 ^ 32 - 1 - d) / 4)
behind d h =
    let none : nat_lt d (2 ^ 31) ≡ false = grind (arith, nat_tests) in
    rw none refl

pub branch_back : (at : ℕ) (c : Condition) (link : Bool) (offset : ℤ) → at ≤ 33554432 → limits.distance offset < 2 ^ 23
    → placing.branch c link (placing.distance at (branch_target at offset)) ≡ Some (op.Branch c link offset)
branch_back at c link (pos n) a h =
    let d : placing.distance at (branch_target at (pos n)) ≡ 4 * n = omega arith in
    let q : 4 * n / 4 ≡ n = omega arith in
    rw d (words_by c link (4 * n) (pos n) (omega arith) (ahead (4 * n) (omega arith) ∙ ap pos q))
branch_back at c link (negsuc n) a h =
    let d : placing.distance at (branch_target at (negsuc n)) ≡ 2 ^ 32 - 4 * n - 4 = omega arith in
    let q : (2 ^ 32 - 1 - (2 ^ 32 - 4 * n - 4)) / 4 ≡ n = omega arith in
    rw d (words_by c link (2 ^ 32 - 4 * n - 4) (negsuc n) (omega arith)
    (behind (2 ^ 32 - 4 * n - 4) (omega arith) ∙ ap negsuc q))
