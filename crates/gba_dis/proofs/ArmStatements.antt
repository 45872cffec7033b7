-- The assembler takes the statement of an ARM operation to that operation.
use Rattle.std.proofs.Common.{◌≡◌, ◌<◌, ◌≤◌, ℕ, zero, suc, ◌+◌, ◌*◌, ◌-◌, ◌/◌, ◌%◌, ◌^◌, Bool, true, false, cond, not, ◌&&◌, ◌||◌, ◌==◌, nat_le, nat_lt, List, [], ◌∷◌, ◌++◌, codes, Option, Some, None, option_map, Result, Ok, refl, sym, ap, ◌∙◌, lt-ltb, le-leb, lit<, lit≤, arith}
use Rattle.std.specs.Int.{w32, to_le_bytes, rotate_right}
use Rattle.std.proofs.lemmas.Bool.Decides.{nat_tests}
use Rattle.gba_word.specs.declared.kinds.Shift.{Shift}
use Rattle.gba_word.specs.declared.kinds.Shift.TheVariants.{Lsl, Lsr, Asr, Ror}
use Rattle.gba_arm_table.specs.declared.operation.ArmOp.{ArmOp}
use Rattle.gba_arm_table.specs.declared.operation.ArmOp.TheVariants as op
use Rattle.gba_arm_table.specs.declared.operation.CompareOp.{CompareOp}
use Rattle.gba_arm_table.specs.declared.operation.ComputeOp.{ComputeOp}
use Rattle.gba_arm_table.specs.declared.operation.ComputeOp.TheVariants.{And, Eor, Sub, Rsb, Add, Adc, Sbc, Rsc, Orr, Mov, Bic, Mvn}
use Rattle.gba_arm_table.specs.declared.operation.Condition.{Condition}
use Rattle.gba_arm_table.specs.declared.operation.HalfKind.{HalfKind}
use Rattle.gba_arm_table.specs.declared.operation.HalfOffset.{HalfOffset}
use Rattle.gba_arm_table.specs.declared.operation.HalfOffset.TheVariants as half
use Rattle.gba_arm_table.specs.declared.operation.Operand.{Operand}
use Rattle.gba_arm_table.specs.declared.operation.Operand.TheVariants as operand
use Rattle.gba_arm_table.specs.declared.operation.Source.{Source}
use Rattle.gba_arm_table.specs.declared.operation.Source.TheVariants as source
use Rattle.gba_arm_table.specs.declared.operation.TransferOffset.{TransferOffset}
use Rattle.gba_arm_table.specs.declared.operation.TransferOffset.TheVariants as transfer_offset
use Rattle.gba_arm_table.specs.Limits.{Within, operand_immediates, operand_registers, transfer_immediates, transfer_offsets, transfer_registers}
use Rattle.gba_text.specs.Steps.{taken}
use Rattle.gba_asm_words.specs.declared.kinds.AsmKind.{AsmKind}
use Rattle.gba_asm_words.specs.Readers.{Address, begins}
use Rattle.gba_asm_words.specs.Tokens.{Token, Word, Mark}
use Rattle.gba_asm_arm.specs.Forms.{accumulate_form, block_form, branch_form, compare_form, compute_form, exchange_form, half_form, interrupt_form, long_form, move_form, multiply_form, read_status_form, swap_form, three_form, transfer_form, write_status_form}
use Rattle.gba_asm_arm.specs.Operands.{amount_from_0, amount_from_1, amount_of, immediate_operand, immediate_source, least_turn, next_second_at, register_operand, saved_at, saved_of, second_at, shift_name_at, shift_name_of, shifted_as, shifted_by, source_at}
use Rattle.gba_asm_arm.specs.Statement.{Operation, Branch}
use Rattle.gba_dis.specs.Arm.{compare_text, compute_text, condition_text, or_32, second, shift_pieces, shifted, shift_text, status_text, turned}
use Rattle.gba_dis.specs.Law.{is_operand, is_operand_told, is_source, is_source_told}
use Rattle.gba_dis.specs.Pieces.{Comma, Plain, number_text, register_name}
use Rattle.gba_dis.proofs.Readers.{immediate_read, next_register_read, number_read, register_read}
use Rattle.gba_dis.proofs.Spelling.{tokens_of}
use Rattle.std.proofs.lemmas.Nat.{or_lt, mod_below}

abbrev pub reg : ℕ → Token
reg n = Word (register_name n)

abbrev pub num : ℕ → Token
num n = Word (number_text n)

pub exchange_said : (c : Condition) (rm : ℕ) → rm < 16
    → exchange_form c (reg rm ∷ []) ≡ Ok (Operation (Some (op.Exchange c rm)))
unfolding exchange_form
exchange_said c rm h = rw (register_read rm _ h) refl

pub multiply_said : (c : Condition) (set : Bool) (rd rs rm : ℕ) → rd < 16 → rs < 16 → rm < 16
    → multiply_form c set (reg rd ∷ Mark 44 ∷ reg rm ∷ Mark 44 ∷ reg rs ∷ [])
    ≡ Ok (Operation (Some (op.Multiply c false set rd 0 rs rm)))
unfolding multiply_form
multiply_said c set rd rs rm h k l =
    rw (register_read rd _ h, next_register_read rm _ l, next_register_read rs _ k) refl

pub accumulate_said : (c : Condition) (set : Bool) (rd rn rs rm : ℕ) → rd < 16 → rn < 16 → rs < 16 → rm < 16
    → accumulate_form c set (reg rd ∷ Mark 44 ∷ reg rm ∷ Mark 44 ∷ reg rs ∷ Mark 44 ∷ reg rn ∷ [])
    ≡ Ok (Operation (Some (op.Multiply c true set rd rn rs rm)))
unfolding accumulate_form
accumulate_said c set rd rn rs rm h n k l =
    rw (register_read rd _ h, next_register_read rm _ l, next_register_read rs _ k, next_register_read rn _ n) refl

pub long_said : (c : Condition) (signed accumulate set : Bool) (hi lo rs rm : ℕ) → hi < 16 → lo < 16 → rs < 16 → rm < 16
    → long_form c signed accumulate set (reg lo ∷ Mark 44 ∷ reg hi ∷ Mark 44 ∷ reg rm ∷ Mark 44 ∷ reg rs ∷ [])
    ≡ Ok (Operation (Some (op.MultiplyLong c signed accumulate set hi lo rs rm)))
unfolding long_form
long_said c signed accumulate set hi lo rs rm h n k l =
    rw (register_read lo _ n, next_register_read hi _ h, next_register_read rm _ l, next_register_read rs _ k) refl

pub swap_said : (c : Condition) (byte : Bool) (rn rd rm : ℕ) → rn < 16 → rd < 16 → rm < 16
    → swap_form c byte (reg rd ∷ Mark 44 ∷ reg rm ∷ Mark 44 ∷ Mark 91 ∷ reg rn ∷ Mark 93 ∷ [])
    ≡ Ok (Operation (Some (op.Swap c byte rn rd rm)))
unfolding swap_form
swap_said c byte rn rd rm h k l = rw (register_read rd _ k, next_register_read rm _ l, register_read rn _ h) refl

pub read_status_said : (c : Condition) (saved : Bool) (rd : ℕ) → rd < 16
    → read_status_form c (reg rd ∷ Mark 44 ∷ Word (status_text saved) ∷ [])
    ≡ Ok (Operation (Some (op.ReadStatus c saved rd)))
unfolding read_status_form saved_at saved_of
read_status_said c true rd h = rw (register_read rd _ h) refl
read_status_said c false rd h = rw (register_read rd _ h) refl

pub interrupt_said : (c : Condition) (n : ℕ) → n < 2 ^ 24
    → interrupt_form c (Mark 35 ∷ num n ∷ []) ≡ Ok (Operation (Some (op.Interrupt c n)))
unfolding interrupt_form
interrupt_said c n h = rw (immediate_read n _ (omega (arith, h))) refl

-- the last operand of data processing
pub amount_by : (n : ℕ) (t : Bool) → (n == 0) ≡ t → n < 32 → amount_from_1 (cond t 32 n) ≡ Some n
amount_by n true e h =
    let zero_is : n ≡ 0 = grind (arith, nat_tests) in
    ap Some (sym zero_is)
amount_by n false e h =
    let low : 1 ≤ n = grind (arith, nat_tests) in
    let high : n ≤ 32 = omega arith in
    let same : n % 32 ≡ n = omega arith in
    rw (le-leb _ _ low, le-leb _ _ high, same) refl

pub small_by : (n : ℕ) (t : Bool) → n < 32 → cond t 32 n < 2 ^ 32
small_by n true h = lit< tt
small_by n false h = omega (arith, h)

pub turned_small : (value turn : ℕ) → value < 256 → turned value turn < 2 ^ 32
turned_small value turn h =
    let shift = 2 ^ (2 * turn % 32) in
    or_lt 32 _ _ (omega (arith, quotient_le value shift)) (mod_below _ (2 ^ 32) (lit< tt))
  where
    quotient_le : (n m : ℕ) → n / m ≤ n
    quotient_le n m = omega arith

operand_is : (o : Option Operand) (value turn : ℕ) → is_operand o value turn ≡ true
    → o ≡ Some (operand.Immediate value turn)
operand_is (Some (operand.Immediate v t)) value turn h =
    let a : v ≡ value = grind (arith, nat_tests) in
    let b : t ≡ turn = grind (arith, nat_tests) in
    cc
operand_is (Some (operand.Fixed rm kind amount)) value turn h = absurd cc
operand_is (Some (operand.ByRegister rm kind rs)) value turn h = absurd cc
operand_is None value turn h = absurd cc

shift_named : (kind : Shift) (rm n amount : ℕ) → n < 2 ^ 32 → amount_of kind n ≡ Some amount
    → register_operand rm (Mark 44 ∷ Word (shift_text kind) ∷ Mark 35 ∷ num n ∷ [])
    ≡ Ok (taken (Some (operand.Fixed rm kind amount)) [])
unfolding register_operand shift_name_at shift_name_of shifted_as shifted_by
shift_named Lsl rm n amount h e = rw (number_read n _ h, e) refl
shift_named Lsr rm n amount h e = rw (number_read n _ h, e) refl
shift_named Asr rm n amount h e = rw (number_read n _ h, e) refl
shift_named Ror rm n amount h e = rw (number_read n _ h, e) refl

by_zero : (kind : Shift) (rm amount : ℕ) → amount < 32 → amount_of kind amount ≡ Some amount
    → register_operand rm (Mark 44 ∷ Word (shift_text kind) ∷ Mark 35 ∷ num amount ∷ [])
    ≡ Ok (taken (Some (operand.Fixed rm kind amount)) [])
by_zero kind rm amount h e = shift_named kind rm amount amount (omega (arith, h)) e

lsl_said : (rm amount : ℕ) (t : Bool) → (amount == 0) ≡ t → amount < 32
    → register_operand rm (tokens_of (cond t [] (shifted Lsl amount)))
    ≡ Ok (taken (Some (operand.Fixed rm Lsl amount)) [])
unfolding register_operand
lsl_said rm amount true e h =
    let none : amount ≡ 0 = grind (arith, nat_tests) in
    rw none refl
lsl_said rm amount false e h = by_zero Lsl rm amount h (rw (lt-ltb _ _ h) refl)

ror_said : (rm amount : ℕ) (t : Bool) → (amount == 0) ≡ t → amount < 32
    → register_operand rm (tokens_of (cond t (Comma ∷ Plain (codes "rrx") ∷ []) (shifted Ror amount)))
    ≡ Ok (taken (Some (operand.Fixed rm Ror amount)) [])
unfolding register_operand shift_name_at shift_name_of shifted_as
ror_said rm amount true e h =
    let none : amount ≡ 0 = grind (arith, nat_tests) in
    rw none refl
ror_said rm amount false e h = by_zero Ror rm amount h (rw (lt-ltb _ _ h) refl)

shift_said : (kind : Shift) (rm amount : ℕ) → amount < 32
    → register_operand rm (tokens_of (shift_pieces kind amount)) ≡ Ok (taken (Some (operand.Fixed rm kind amount)) [])
shift_said Lsl rm amount h = lsl_said rm amount (amount == 0) refl h
shift_said Lsr rm amount h =
    shift_named Lsr rm (or_32 amount) amount (small_by amount (amount == 0) h) (amount_by amount (amount == 0) refl h)
shift_said Asr rm amount h =
    shift_named Asr rm (or_32 amount) amount (small_by amount (amount == 0) h) (amount_by amount (amount == 0) refl h)
shift_said Ror rm amount h = ror_said rm amount (amount == 0) refl h

register_shift : (kind : Shift) (rm rs : ℕ) → rs < 16
    → register_operand rm (Mark 44 ∷ Word (shift_text kind) ∷ reg rs ∷ [])
    ≡ Ok (taken (Some (operand.ByRegister rm kind rs)) [])
unfolding register_operand shift_name_at shift_name_of shifted_as shifted_by
register_shift Lsl rm rs h = rw (register_read rs _ h) refl
register_shift Lsr rm rs h = rw (register_read rs _ h) refl
register_shift Asr rm rs h = rw (register_read rs _ h) refl
register_shift Ror rm rs h = rw (register_read rs _ h) refl

pub second_said : (o : Operand) → Within (operand_registers o) → Within (operand_immediates o)
    → is_operand_told o ≡ true → second_at (tokens_of (second o)) ≡ Ok (taken (Some o) [])
unfolding second_at second
second_said (operand.Immediate value turn) r h told =
    rw (number_read (turned value turn) _ (turned_small value turn h.1.0))
    (ap (λ x. Ok (taken x [])) (operand_is (immediate_operand (least_turn (turned value turn))) value turn told))
second_said (operand.Fixed rm kind amount) r h told =
    rw (register_read rm (tokens_of (shift_pieces kind amount)) r.0) (shift_said kind rm amount h.0)
second_said (operand.ByRegister rm kind rs) r h told = rw (register_read rm _ r.0) (register_shift kind rm rs r.1.0)

next_second : (o : Operand) → Within (operand_registers o) → Within (operand_immediates o) → is_operand_told o ≡ true
    → next_second_at (Mark 44 ∷ tokens_of (second o)) ≡ Ok (taken (Some o) [])
unfolding next_second_at
next_second o r h told = second_said o r h told

pub compare_said : (c : Condition) (o : CompareOp) (rn : ℕ) (x : Operand) → rn < 16 → Within (operand_registers x)
    → Within (operand_immediates x) → is_operand_told x ≡ true
    → compare_form c o (reg rn ∷ Mark 44 ∷ tokens_of (second x)) ≡ Ok (Operation (Some (op.Compare c o rn x)))
unfolding compare_form
compare_said c o rn x h r i told = rw (register_read rn (Mark 44 ∷ tokens_of (second x)) h, next_second x r i told) refl

pub move_said : (c : Condition) (o : ComputeOp) (set : Bool) (rd : ℕ) (x : Operand) → rd < 16
    → Within (operand_registers x) → Within (operand_immediates x) → is_operand_told x ≡ true
    → move_form c o set (reg rd ∷ Mark 44 ∷ tokens_of (second x)) ≡ Ok (Operation (Some (op.Compute c o set 0 rd x)))
unfolding move_form
move_said c o set rd x h r i told =
    rw (register_read rd (Mark 44 ∷ tokens_of (second x)) h, next_second x r i told) refl

pub three_said : (c : Condition) (o : ComputeOp) (set : Bool) (rn rd : ℕ) (x : Operand) → rn < 16 → rd < 16
    → Within (operand_registers x) → Within (operand_immediates x) → is_operand_told x ≡ true
    → three_form c o set (reg rd ∷ Mark 44 ∷ reg rn ∷ Mark 44 ∷ tokens_of (second x))
    ≡ Ok (Operation (Some (op.Compute c o set rn rd x)))
unfolding three_form
three_said c o set rn rd x h k r i told =
    rw (
      register_read rd (Mark 44 ∷ reg rn ∷ Mark 44 ∷ tokens_of (second x)) k,
      next_register_read rn (Mark 44 ∷ tokens_of
          (second x)) h,
      next_second x r i told,
    ) refl
