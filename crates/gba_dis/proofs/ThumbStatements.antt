-- The assembler takes the statement of a Thumb operation to that operation.
use Rattle.std.proofs.Common.{◌≡◌, ◌<◌, ◌≤◌, ℕ, zero, suc, ◌+◌, ◌*◌, ◌-◌, ◌/◌, ◌%◌, ◌^◌, Bool, true, false, cond, not, ◌&&◌, ◌||◌, ◌==◌, nat_le, nat_lt, List, [], ◌∷◌, ◌++◌, codes, Option, Some, None, option_map, Ok, refl, sym, ap, ◌∙◌, lt-ltb, le-leb, lit<, lit≤, arith}
use Rattle.std.proofs.lemmas.Bool.Decides.{nat_tests}
use Rattle.gba_thumb_table.specs.declared.operation.ThumbOp.{ThumbOp}
use Rattle.gba_thumb_table.specs.declared.operation.ThumbOp.TheVariants.{Format1, Format2, Format3, Format4, Format5, Format6, Format7, Format8, Format9, Format10, Format11, Format12, Format13, Format14, Format15, Format16, Format17, Format18, Format19}
use Rattle.std.proofs.lemmas.Nat.{mod_below}
use Rattle.std.specs.Int.{w16, to_le_bytes}
use Rattle.gba_thumb_table.specs.Encoding.{encoding}
use Rattle.gba_thumb_table.specs.Limits.{Fits}
use Rattle.gba_asm.specs.Directives.{directive_of}
use Rattle.gba_asm_words.specs.Readers.{Address}
use Rattle.gba_asm_words.specs.Tokens.{Token, Word, Mark}
use Rattle.gba_asm_thumb.specs.Forms.{add_form, add_number, add_register, adjust_form, branch_form, branch_if_form, call_form, compare_form, compare_register, exchange_form, fixed_shift, form_of, interrupt_form, move_form, move_register, number_access, number_form, register_access, scaled, shift_form, subtract_form, subtract_number, subtract_register, three_register_form, thumb_statement, transfer_form, two_register_form, high}
use Rattle.gba_asm_arm.specs.Operands.{amount_from_1}
use Rattle.gba_asm_thumb.specs.Names.{access_of, other_of, thumb_name, two_register_of}
use Rattle.gba_asm_arm.specs.Tails.{condition_of}
use Rattle.gba_asm_thumb.specs.Placing.{distance, halfwords, is_within, operations_at}
use Rattle.gba_asm.proofs.Lone.{Tells, call_line, thumb_line}
use Rattle.gba_asm_thumb.specs.Statement.{Operation, Branch, BranchIf, Call}
use Rattle.gba_dis.specs.Arm.{or_32}
use Rattle.gba_dis.specs.Law.{is_high_told, is_told}
use Rattle.gba_dis.specs.Pieces.{braces, digits_text, number_text, register_name}
use Rattle.gba_dis.specs.Thumb.{branch_name, branch_target, high_name, high_register, number_name, scaled as bytes_scaled, shift_amount, shift_name, signed_name, byte_name, half_name, load_name, sum_name, two_register_name, thumb_pieces, sum_pieces, high_pieces, by_number, by_register, two_number_pieces, number_pieces, branch_pieces, block_pieces, stack_list, stack_name}
use Rattle.gba_dis.proofs.Readers.{address_read, immediate_read, low_read, next_low_read, number_read, register_read}
use Rattle.gba_dis.proofs.RegisterLists.{block_said, pop_said, push_said}
use Rattle.gba_dis.proofs.Spelling.{tokens_of}
use Rattle.gba_dis.proofs.ThumbShapes.{high_small}

abbrev reg : ℕ → Token
reg n = Word (register_name n)

abbrev num : ℕ → Token
num n = Word (number_text n)

-- A word and the tokens after it say this operation, and the word is no directive.
pub record Said (op : ThumbOp) (tokens : List Token) : Type 0 where
  pub word : List ℕ
  pub rest : List Token
  pub split : tokens ≡ Word word ∷ rest
  pub none : directive_of word ≡ None
  pub said : thumb_statement word rest ≡ Ok (Operation (Some op))

scaled_1 : (n : ℕ) → n < 2 ^ 16 → scaled n 1 ≡ Some n
scaled_1 n h =
    let whole : n % 1 ≡ 0 = omega arith in
    let same : n / 1 ≡ n = omega arith in
    rw (whole, same, lt-ltb _ _ h) refl

scaled_2 : (n : ℕ) → n < 2 ^ 16 → scaled (2 * n) 2 ≡ Some n
scaled_2 n h =
    let whole : (2 * n) % 2 ≡ 0 = omega arith in
    let same : (2 * n) / 2 ≡ n = omega arith in
    rw (whole, same, lt-ltb _ _ h) refl

scaled_4 : (n : ℕ) → n < 2 ^ 16 → scaled (4 * n) 4 ≡ Some n
scaled_4 n h =
    let whole : (4 * n) % 4 ≡ 0 = omega arith in
    let same : (4 * n) / 4 ≡ n = omega arith in
    rw (whole, same, lt-ltb _ _ h) refl

amount_by : (n : ℕ) (t : Bool) → (n == 0) ≡ t → n < 32 → amount_from_1 (cond t 32 n) ≡ Some n
amount_by n true e h =
    let zero_is : n ≡ 0 = grind (arith, nat_tests) in
    ap Some (sym zero_is)
amount_by n false e h =
    let low : 1 ≤ n = grind (arith, nat_tests) in
    let high : n ≤ 32 = omega arith in
    let same : n % 32 ≡ n = omega arith in
    rw (le-leb _ _ low, le-leb _ _ high, same) refl

amount_32 : (n : ℕ) → n < 32 → amount_from_1 (or_32 n) ≡ Some n
amount_32 n h = amount_by n (n == 0) refl h

small_by : (n : ℕ) (t : Bool) → n < 32 → cond t 32 n < 2 ^ 32
small_by n true h = lit< tt
small_by n false h = omega (arith, h)

small_32 : (n : ℕ) → n < 32 → or_32 n < 2 ^ 32
small_32 n h = small_by n (n == 0) h

shift_said : (op o5 rs rd : ℕ) → o5 < 32 → rs < 8 → rd < 8 → op < 3
    → Said (Format1 op o5 rs rd) (Word (shift_name op) ∷ reg rd ∷ Mark 44 ∷ reg rs ∷ Mark 44 ∷ Mark 35
    ∷ num (shift_amount op o5) ∷ [])
unfolding directive_of thumb_statement thumb_name other_of form_of shift_form fixed_shift
shift_said zero o5 rs rd few h k op = record {
  word = codes "lsl";
  rest = reg rd ∷ Mark 44 ∷ reg rs ∷ Mark 44 ∷ Mark 35 ∷ num o5 ∷ [];
  split = refl;
  none = refl;
  said = rw (low_read rd _ k, next_low_read rs _ h, immediate_read o5 _ (omega (arith, few)), lt-ltb _ _ few) refl;
}
shift_said (suc zero) o5 rs rd few h k op = record {
  word = codes "lsr";
  rest = reg rd ∷ Mark 44 ∷ reg rs ∷ Mark 44 ∷ Mark 35 ∷ num (or_32 o5) ∷ [];
  split = refl;
  none = refl;
  said =
      rw (low_read rd _ k, next_low_read rs _ h, immediate_read (or_32 o5) _ (small_32 o5 few), amount_32 o5 few) refl;
}
shift_said (suc (suc zero)) o5 rs rd few h k op = record {
  word = codes "asr";
  rest = reg rd ∷ Mark 44 ∷ reg rs ∷ Mark 44 ∷ Mark 35 ∷ num (or_32 o5) ∷ [];
  split = refl;
  none = refl;
  said =
      rw (low_read rd _ k, next_low_read rs _ h, immediate_read (or_32 o5) _ (small_32 o5 few), amount_32 o5 few) refl;
}
shift_said (suc (suc (suc n))) o5 rs rd few h k op = absurd (omega arith)

sum_said : (i down : Bool) (x rs rd : ℕ) → x < 8 → rs < 8 → rd < 8
    → Said (Format2 i down x rs rd) (tokens_of (sum_pieces i down x rs rd))
unfolding directive_of thumb_statement thumb_name other_of form_of add_form add_register add_number subtract_form
    subtract_register subtract_number three_register_form
sum_said true false x rs rd l h k =
    let a : rd < 16 = omega arith in
    let b : rs < 16 = omega arith in
    let n : x < 2 ^ 16 = omega arith in
    let m : x < 2 ^ 32 = omega arith in
    record {
      word = codes "add";
      rest = reg rd ∷ Mark 44 ∷ reg rs ∷ Mark 44 ∷ Mark 35 ∷ num x ∷ [];
      split = refl;
      none = refl;
      said =
          rw (register_read rd _ a, register_read rs _ b, lt-ltb _ _ k, number_read x _ m, lt-ltb _ _ h, scaled_1 x n)
          refl;
    }
sum_said true true x rs rd l h k =
    let a : rd < 16 = omega arith in
    let b : rs < 16 = omega arith in
    let n : x < 2 ^ 16 = omega arith in
    let m : x < 2 ^ 32 = omega arith in
    record {
      word = codes "sub";
      rest = reg rd ∷ Mark 44 ∷ reg rs ∷ Mark 44 ∷ Mark 35 ∷ num x ∷ [];
      split = refl;
      none = refl;
      said =
          rw (register_read rd _ a, register_read rs _ b, lt-ltb _ _ k, lt-ltb _ _ h, number_read x _ m, scaled_1 x n)
          refl;
    }
sum_said false false x rs rd l h k =
    let a : rd < 16 = omega arith in
    let b : rs < 16 = omega arith in
    let n : x < 2 ^ 16 = omega arith in
    let m : x < 2 ^ 32 = omega arith in
    record {
      word = codes "add";
      rest = reg rd ∷ Mark 44 ∷ reg rs ∷ Mark 44 ∷ reg x ∷ [];
      split = refl;
      none = refl;
      said = rw (register_read rd _ a, register_read rs _ b, lt-ltb _ _ k, lt-ltb _ _ h, low_read x _ l) refl;
    }
sum_said false true x rs rd l h k =
    let a : rd < 16 = omega arith in
    let b : rs < 16 = omega arith in
    let n : x < 2 ^ 16 = omega arith in
    let m : x < 2 ^ 32 = omega arith in
    record {
      word = codes "sub";
      rest = reg rd ∷ Mark 44 ∷ reg rs ∷ Mark 44 ∷ reg x ∷ [];
      split = refl;
      none = refl;
      said = rw (register_read rd _ a, register_read rs _ b, lt-ltb _ _ k, lt-ltb _ _ h, low_read x _ l) refl;
    }

no_13 : (n : ℕ) → n < 8 → (n == 13) ≡ false
no_13 n h = grind (arith, nat_tests)

no_15 : (n : ℕ) → n < 8 → (n == 15) ≡ false
no_15 n h = grind (arith, nat_tests)

number_said : (op rd n : ℕ) → rd < 8 → n < 256 → op < 4
    → Said (Format3 op rd n) (Word (number_name op) ∷ reg rd ∷ Mark 44 ∷ Mark 35 ∷ num n ∷ [])
unfolding directive_of thumb_statement thumb_name other_of form_of move_form compare_form add_form subtract_form
    number_form
number_said zero rd n h k op =
    let a : rd < 16 = omega arith in
    let s : n < 2 ^ 16 = omega arith in
    let m : n < 2 ^ 32 = omega arith in
    record {
      word = codes "mov";
      rest = reg rd ∷ Mark 44 ∷ Mark 35 ∷ num n ∷ [];
      split = refl;
      none = refl;
      said = rw (register_read rd _ a, lt-ltb _ _ h, number_read n _ m, scaled_1 n s) refl;
    }
number_said (suc zero) rd n h k op =
    let a : rd < 16 = omega arith in
    let s : n < 2 ^ 16 = omega arith in
    let m : n < 2 ^ 32 = omega arith in
    record {
      word = codes "cmp";
      rest = reg rd ∷ Mark 44 ∷ Mark 35 ∷ num n ∷ [];
      split = refl;
      none = refl;
      said = rw (register_read rd _ a, lt-ltb _ _ h, number_read n _ m, scaled_1 n s) refl;
    }
number_said (suc (suc zero)) rd n h k op =
    let a : rd < 16 = omega arith in
    let s : n < 2 ^ 16 = omega arith in
    let m : n < 2 ^ 32 = omega arith in
    record {
      word = codes "add";
      rest = reg rd ∷ Mark 44 ∷ Mark 35 ∷ num n ∷ [];
      split = refl;
      none = refl;
      said = rw (register_read rd _ a, no_13 rd h, lt-ltb _ _ h, number_read n _ m, scaled_1 n s) refl;
    }
number_said (suc (suc (suc zero))) rd n h k op =
    let a : rd < 16 = omega arith in
    let s : n < 2 ^ 16 = omega arith in
    let m : n < 2 ^ 32 = omega arith in
    record {
      word = codes "sub";
      rest = reg rd ∷ Mark 44 ∷ Mark 35 ∷ num n ∷ [];
      split = refl;
      none = refl;
      said = rw (register_read rd _ a, no_13 rd h, lt-ltb _ _ h, number_read n _ m, scaled_1 n s) refl;
    }
number_said (suc (suc (suc (suc op)))) rd n h k less = absurd (omega arith)

two_said : (number rs rd : ℕ) → rs < 8 → rd < 8
    → two_register_form number (reg rd ∷ Mark 44 ∷ reg rs ∷ []) ≡ Ok (Operation (Some (Format4 number rs rd)))
unfolding two_register_form
two_said number rs rd h k = rw (low_read rd _ k, next_low_read rs _ h) refl

operation_said : (op rs rd : ℕ) → rs < 8 → rd < 8 → op < 16
    → Said (Format4 op rs rd) (Word (two_register_name op) ∷ reg rd ∷ Mark 44 ∷ reg rs ∷ [])
unfolding directive_of thumb_statement thumb_name other_of access_of two_register_of form_of shift_form compare_form
    compare_register
operation_said zero rs rd h k op = record {
  word = codes "and";
  rest = reg rd ∷ Mark 44 ∷ reg rs ∷ [];
  split = refl;
  none = refl;
  said = two_said 0 rs rd h k;
}
operation_said (suc zero) rs rd h k op = record {
  word = codes "eor";
  rest = reg rd ∷ Mark 44 ∷ reg rs ∷ [];
  split = refl;
  none = refl;
  said = two_said 1 rs rd h k;
}
operation_said (suc (suc zero)) rs rd h k op = record {
  word = codes "lsl";
  rest = reg rd ∷ Mark 44 ∷ reg rs ∷ [];
  split = refl;
  none = refl;
  said = rw (low_read rd _ k, next_low_read rs _ h) refl;
}
operation_said (suc (suc (suc zero))) rs rd h k op = record {
  word = codes "lsr";
  rest = reg rd ∷ Mark 44 ∷ reg rs ∷ [];
  split = refl;
  none = refl;
  said = rw (low_read rd _ k, next_low_read rs _ h) refl;
}
operation_said (suc (suc (suc (suc zero)))) rs rd h k op = record {
  word = codes "asr";
  rest = reg rd ∷ Mark 44 ∷ reg rs ∷ [];
  split = refl;
  none = refl;
  said = rw (low_read rd _ k, next_low_read rs _ h) refl;
}
operation_said (suc (suc (suc (suc (suc zero))))) rs rd h k op = record {
  word = codes "adc";
  rest = reg rd ∷ Mark 44 ∷ reg rs ∷ [];
  split = refl;
  none = refl;
  said = two_said 5 rs rd h k;
}
operation_said (suc (suc (suc (suc (suc (suc zero)))))) rs rd h k op = record {
  word = codes "sbc";
  rest = reg rd ∷ Mark 44 ∷ reg rs ∷ [];
  split = refl;
  none = refl;
  said = two_said 6 rs rd h k;
}
operation_said (suc (suc (suc (suc (suc (suc (suc zero))))))) rs rd h k op = record {
  word = codes "ror";
  rest = reg rd ∷ Mark 44 ∷ reg rs ∷ [];
  split = refl;
  none = refl;
  said = two_said 7 rs rd h k;
}
operation_said (suc (suc (suc (suc (suc (suc (suc (suc zero)))))))) rs rd h k op = record {
  word = codes "tst";
  rest = reg rd ∷ Mark 44 ∷ reg rs ∷ [];
  split = refl;
  none = refl;
  said = two_said 8 rs rd h k;
}
operation_said (suc (suc (suc (suc (suc (suc (suc (suc (suc zero))))))))) rs rd h k op = record {
  word = codes "neg";
  rest = reg rd ∷ Mark 44 ∷ reg rs ∷ [];
  split = refl;
  none = refl;
  said = two_said 9 rs rd h k;
}
operation_said (suc (suc (suc (suc (suc (suc (suc (suc (suc (suc zero)))))))))) rs rd h k op = record {
  word = codes "cmp";
  rest = reg rd ∷ Mark 44 ∷ reg rs ∷ [];
  split = refl;
  none = refl;
  said =
      rw (register_read rd _ (omega (arith, k)), register_read rs _ (omega (arith, h)), lt-ltb _ _ k, lt-ltb _ _ h)
      refl;
}
operation_said (suc (suc (suc (suc (suc (suc (suc (suc (suc (suc (suc zero))))))))))) rs rd h k op = record {
  word = codes "cmn";
  rest = reg rd ∷ Mark 44 ∷ reg rs ∷ [];
  split = refl;
  none = refl;
  said = two_said 11 rs rd h k;
}
operation_said (suc (suc (suc (suc (suc (suc (suc (suc (suc (suc (suc (suc zero)))))))))))) rs rd h k op = record {
  word = codes "orr";
  rest = reg rd ∷ Mark 44 ∷ reg rs ∷ [];
  split = refl;
  none = refl;
  said = two_said 12 rs rd h k;
}
operation_said (suc (suc (suc (suc (suc (suc (suc (suc (suc (suc (suc (suc (suc zero))))))))))))) rs rd h k op =
    record {
      word = codes "mul";
      rest = reg rd ∷ Mark 44 ∷ reg rs ∷ [];
      split = refl;
      none = refl;
      said = two_said 13 rs rd h k;
    }
operation_said (suc (suc (suc (suc (suc (suc (suc (suc (suc (suc (suc (suc (suc (suc zero)))))))))))))) rs rd h k op =
    record {
      word = codes "bic";
      rest = reg rd ∷ Mark 44 ∷ reg rs ∷ [];
      split = refl;
      none = refl;
      said = two_said 14 rs rd h k;
    }
operation_said (suc (suc (suc (suc (suc (suc (suc (suc (suc (suc (suc (suc (suc (suc (suc zero))))))))))))))) rs rd h k
    op = record {
      word = codes "mvn";
      rest = reg rd ∷ Mark 44 ∷ reg rs ∷ [];
      split = refl;
      none = refl;
      said = two_said 15 rs rd h k;
    }
operation_said (suc (suc (suc (suc (suc (suc (suc (suc (suc (suc (suc (suc (suc (suc (suc (suc op)))))))))))))))) rs rd
    h k less = absurd (omega arith)

top : (t : Bool) (n : ℕ) → n < 8 → nat_le 8 (high_register t n) ≡ t
top true n h = le-leb _ _ (omega (arith, h))
top false n h = grind (arith, nat_tests)

rest_of : (t : Bool) (n : ℕ) → n < 8 → high_register t n % 8 ≡ n
rest_of true n h = omega (arith, h)
rest_of false n h = omega (arith, h)

high_back : (op : ℕ) (h1 h2 : Bool) (rs rd : ℕ) → rs < 8 → rd < 8
    → high op (high_register h1 rd) (high_register h2 rs) ≡ Format5 op h1 h2 rs rd
high_back op h1 h2 rs rd h k =
    same (nat_le 8 (high_register h1 rd)) (nat_le 8 (high_register h2 rs)) (high_register h2 rs % 8)
    (high_register h1 rd % 8) (top h1 rd k) (top h2 rs h) (rest_of h2 rs h) (rest_of h1 rd k)
  where
    same : (a b : Bool) (c d : ℕ) → a ≡ h1 → b ≡ h2 → c ≡ rs → d ≡ rd → Format5 op a b c d ≡ Format5 op h1 h2 rs rd
    same a b c d e f g i = cc

one_high : (h1 h2 : Bool) (rs rd : ℕ) → rs < 8 → rd < 8 → (h1 || h2) ≡ true
    → (nat_lt (high_register h1 rd) 8 && nat_lt (high_register h2 rs) 8) ≡ false
one_high true h2 rs rd h k e =
    let none : nat_lt (rd + 8) 8 ≡ false = grind (arith, nat_tests) in
    rw none refl
one_high false true rs rd h k e =
    let none : nat_lt (rs + 8) 8 ≡ false = grind (arith, nat_tests) in
    rw none (and_none (nat_lt rd 8))
  where
    and_none : (t : Bool) → (t && false) ≡ false
    and_none true = refl
    and_none false = refl
one_high false false rs rd h k e = absurd cc

high_said : (op : ℕ) (h1 h2 : Bool) (rs rd : ℕ) → rs < 8 → rd < 8 → op < 4 → is_high_told op h1 h2 rd ≡ true
    → Said (Format5 op h1 h2 rs rd) (tokens_of (high_pieces op h1 h2 rs rd))
unfolding directive_of thumb_statement thumb_name other_of form_of add_form add_register compare_form compare_register
    move_form move_register exchange_form
high_said zero h1 h2 rs rd h k op told = record {
  word = codes "add";
  rest = reg (high_register h1 rd) ∷ Mark 44 ∷ reg (high_register h2 rs) ∷ [];
  split = refl;
  none = refl;
  said =
      rw (
        register_read (high_register h1 rd) _ (high_small h1 rd k),
        register_read (high_register h2 rs) _ (high_small h2 rs h),
      ) (ap (λ o. Ok (Operation (Some o))) (high_back 0 h1 h2 rs rd h k));
}
high_said (suc zero) h1 h2 rs rd h k op told = record {
  word = codes "cmp";
  rest = reg (high_register h1 rd) ∷ Mark 44 ∷ reg (high_register h2 rs) ∷ [];
  split = refl;
  none = refl;
  said =
      rw (
        register_read (high_register h1 rd) _ (high_small h1 rd k),
        register_read (high_register h2 rs) _ (high_small h2 rs h),
        one_high h1 h2 rs rd h k told,
      ) (ap (λ o. Ok (Operation (Some o))) (high_back 1 h1 h2 rs rd h k));
}
high_said (suc (suc zero)) h1 h2 rs rd h k op told = record {
  word = codes "mov";
  rest = reg (high_register h1 rd) ∷ Mark 44 ∷ reg (high_register h2 rs) ∷ [];
  split = refl;
  none = refl;
  said =
      rw (
        register_read (high_register h1 rd) _ (high_small h1 rd k),
        register_read (high_register h2 rs) _ (high_small h2 rs h),
      ) (ap (λ o. Ok (Operation (Some o))) (high_back 2 h1 h2 rs rd h k));
}
high_said (suc (suc (suc zero))) true h2 rs rd h k op told = absurd cc
high_said (suc (suc (suc zero))) false h2 rs rd h k op told =
    let none : rd ≡ 0 = grind (arith, nat_tests) in
    record {
      word = codes "bx";
      rest = reg (high_register h2 rs) ∷ [];
      split = refl;
      none = refl;
      said =
          rw (register_read (high_register h2 rs) _ (high_small h2 rs h), none)
          (ap (λ o. Ok (Operation (Some o))) (high_back 3 false h2 rs 0 h (lit< tt)));
    }
high_said (suc (suc (suc (suc op)))) h1 h2 rs rd h k less told = absurd (omega arith)

counter_said : (rd n : ℕ) → rd < 8 → n < 256 → Said (Format6 rd n) (tokens_of (by_number (codes "ldr") rd 15 (4 * n)))
unfolding directive_of thumb_statement thumb_name other_of access_of form_of transfer_form number_access register_access
counter_said rd n h k =
    let s : n < 2 ^ 16 = omega arith in
    let m : 4 * n < 2 ^ 32 = omega arith in
    record {
      word = codes "ldr";
      rest = reg rd ∷ Mark 44 ∷ Mark 91 ∷ reg 15 ∷ Mark 44 ∷ Mark 35 ∷ num (4 * n) ∷ Mark 93 ∷ [];
      split = refl;
      none = refl;
      said = rw (low_read rd _ h, register_read 15 _ (lit< tt), number_read (4 * n) _ m, scaled_4 n s) refl;
    }

stack_said : (l : Bool) (rd n : ℕ) → rd < 8 → n < 256
    → Said (Format11 l rd n) (tokens_of (by_number (load_name l) rd 13 (4 * n)))
unfolding directive_of thumb_statement thumb_name other_of access_of form_of transfer_form number_access register_access
stack_said true rd n h k =
    let s : n < 2 ^ 16 = omega arith in
    let m : 4 * n < 2 ^ 32 = omega arith in
    record {
      word = codes "ldr";
      rest = reg rd ∷ Mark 44 ∷ Mark 91 ∷ reg 13 ∷ Mark 44 ∷ Mark 35 ∷ num (4 * n) ∷ Mark 93 ∷ [];
      split = refl;
      none = refl;
      said = rw (low_read rd _ h, register_read 13 _ (lit< tt), number_read (4 * n) _ m, scaled_4 n s) refl;
    }
stack_said false rd n h k =
    let s : n < 2 ^ 16 = omega arith in
    let m : 4 * n < 2 ^ 32 = omega arith in
    record {
      word = codes "str";
      rest = reg rd ∷ Mark 44 ∷ Mark 91 ∷ reg 13 ∷ Mark 44 ∷ Mark 35 ∷ num (4 * n) ∷ Mark 93 ∷ [];
      split = refl;
      none = refl;
      said = rw (low_read rd _ h, register_read 13 _ (lit< tt), number_read (4 * n) _ m, scaled_4 n s) refl;
    }

register_said : (l b : Bool) (ro rb rd : ℕ) → ro < 8 → rb < 8 → rd < 8
    → Said (Format7 l b ro rb rd) (tokens_of (by_register (byte_name l b) rd rb ro))
unfolding directive_of thumb_statement thumb_name other_of access_of form_of transfer_form number_access register_access
register_said true true ro rb rd h k i =
    let b : rb < 16 = omega arith in
    record {
      word = codes "ldrb";
      rest = reg rd ∷ Mark 44 ∷ Mark 91 ∷ reg rb ∷ Mark 44 ∷ reg ro ∷ Mark 93 ∷ [];
      split = refl;
      none = refl;
      said = rw (low_read rd _ i, register_read rb _ b, lt-ltb _ _ k, low_read ro _ h) refl;
    }
register_said true false ro rb rd h k i =
    let b : rb < 16 = omega arith in
    record {
      word = codes "ldr";
      rest = reg rd ∷ Mark 44 ∷ Mark 91 ∷ reg rb ∷ Mark 44 ∷ reg ro ∷ Mark 93 ∷ [];
      split = refl;
      none = refl;
      said = rw (low_read rd _ i, register_read rb _ b, lt-ltb _ _ k, low_read ro _ h) refl;
    }
register_said false true ro rb rd h k i =
    let b : rb < 16 = omega arith in
    record {
      word = codes "strb";
      rest = reg rd ∷ Mark 44 ∷ Mark 91 ∷ reg rb ∷ Mark 44 ∷ reg ro ∷ Mark 93 ∷ [];
      split = refl;
      none = refl;
      said = rw (low_read rd _ i, register_read rb _ b, lt-ltb _ _ k, low_read ro _ h) refl;
    }
register_said false false ro rb rd h k i =
    let b : rb < 16 = omega arith in
    record {
      word = codes "str";
      rest = reg rd ∷ Mark 44 ∷ Mark 91 ∷ reg rb ∷ Mark 44 ∷ reg ro ∷ Mark 93 ∷ [];
      split = refl;
      none = refl;
      said = rw (low_read rd _ i, register_read rb _ b, lt-ltb _ _ k, low_read ro _ h) refl;
    }

signed_said : (hh s : Bool) (ro rb rd : ℕ) → ro < 8 → rb < 8 → rd < 8
    → Said (Format8 hh s ro rb rd) (tokens_of (by_register (signed_name hh s) rd rb ro))
unfolding directive_of thumb_statement thumb_name other_of access_of form_of transfer_form number_access register_access
signed_said true true ro rb rd h k i =
    let b : rb < 16 = omega arith in
    record {
      word = codes "ldrsh";
      rest = reg rd ∷ Mark 44 ∷ Mark 91 ∷ reg rb ∷ Mark 44 ∷ reg ro ∷ Mark 93 ∷ [];
      split = refl;
      none = refl;
      said = rw (low_read rd _ i, register_read rb _ b, lt-ltb _ _ k, low_read ro _ h) refl;
    }
signed_said true false ro rb rd h k i =
    let b : rb < 16 = omega arith in
    record {
      word = codes "ldrh";
      rest = reg rd ∷ Mark 44 ∷ Mark 91 ∷ reg rb ∷ Mark 44 ∷ reg ro ∷ Mark 93 ∷ [];
      split = refl;
      none = refl;
      said = rw (low_read rd _ i, register_read rb _ b, lt-ltb _ _ k, low_read ro _ h) refl;
    }
signed_said false true ro rb rd h k i =
    let b : rb < 16 = omega arith in
    record {
      word = codes "ldrsb";
      rest = reg rd ∷ Mark 44 ∷ Mark 91 ∷ reg rb ∷ Mark 44 ∷ reg ro ∷ Mark 93 ∷ [];
      split = refl;
      none = refl;
      said = rw (low_read rd _ i, register_read rb _ b, lt-ltb _ _ k, low_read ro _ h) refl;
    }
signed_said false false ro rb rd h k i =
    let b : rb < 16 = omega arith in
    record {
      word = codes "strh";
      rest = reg rd ∷ Mark 44 ∷ Mark 91 ∷ reg rb ∷ Mark 44 ∷ reg ro ∷ Mark 93 ∷ [];
      split = refl;
      none = refl;
      said = rw (low_read rd _ i, register_read rb _ b, lt-ltb _ _ k, low_read ro _ h) refl;
    }

offset_said : (b l : Bool) (n rb rd : ℕ) → n < 32 → rb < 8 → rd < 8
    → Said (Format9 b l n rb rd) (tokens_of (by_number (byte_name l b) rd rb (bytes_scaled b n)))
unfolding directive_of thumb_statement thumb_name other_of access_of form_of transfer_form number_access register_access
offset_said true true n rb rd h k i =
    let b : rb < 16 = omega arith in
    let s : n < 2 ^ 16 = omega arith in
    let m : n < 2 ^ 32 = omega arith in
    record {
      word = codes "ldrb";
      rest = reg rd ∷ Mark 44 ∷ Mark 91 ∷ reg rb ∷ Mark 44 ∷ Mark 35 ∷ num n ∷ Mark 93 ∷ [];
      split = refl;
      none = refl;
      said = rw (low_read rd _ i, register_read rb _ b, number_read n _ m, lt-ltb _ _ k, scaled_1 n s) refl;
    }
offset_said true false n rb rd h k i =
    let b : rb < 16 = omega arith in
    let s : n < 2 ^ 16 = omega arith in
    let m : n < 2 ^ 32 = omega arith in
    record {
      word = codes "strb";
      rest = reg rd ∷ Mark 44 ∷ Mark 91 ∷ reg rb ∷ Mark 44 ∷ Mark 35 ∷ num n ∷ Mark 93 ∷ [];
      split = refl;
      none = refl;
      said = rw (low_read rd _ i, register_read rb _ b, number_read n _ m, lt-ltb _ _ k, scaled_1 n s) refl;
    }
offset_said false true n rb rd h k i =
    let b : rb < 16 = omega arith in
    let s : n < 2 ^ 16 = omega arith in
    let m : 4 * n < 2 ^ 32 = omega arith in
    record {
      word = codes "ldr";
      rest = reg rd ∷ Mark 44 ∷ Mark 91 ∷ reg rb ∷ Mark 44 ∷ Mark 35 ∷ num (4 * n) ∷ Mark 93 ∷ [];
      split = refl;
      none = refl;
      said = rw (low_read rd _ i, register_read rb _ b, number_read (4 * n) _ m, lt-ltb _ _ k, scaled_4 n s) refl;
    }
offset_said false false n rb rd h k i =
    let b : rb < 16 = omega arith in
    let s : n < 2 ^ 16 = omega arith in
    let m : 4 * n < 2 ^ 32 = omega arith in
    record {
      word = codes "str";
      rest = reg rd ∷ Mark 44 ∷ Mark 91 ∷ reg rb ∷ Mark 44 ∷ Mark 35 ∷ num (4 * n) ∷ Mark 93 ∷ [];
      split = refl;
      none = refl;
      said = rw (low_read rd _ i, register_read rb _ b, number_read (4 * n) _ m, lt-ltb _ _ k, scaled_4 n s) refl;
    }

half_said : (l : Bool) (n rb rd : ℕ) → n < 32 → rb < 8 → rd < 8
    → Said (Format10 l n rb rd) (tokens_of (by_number (half_name l) rd rb (2 * n)))
unfolding directive_of thumb_statement thumb_name other_of access_of form_of transfer_form number_access register_access
half_said true n rb rd h k i =
    let b : rb < 16 = omega arith in
    let s : n < 2 ^ 16 = omega arith in
    let m : 2 * n < 2 ^ 32 = omega arith in
    record {
      word = codes "ldrh";
      rest = reg rd ∷ Mark 44 ∷ Mark 91 ∷ reg rb ∷ Mark 44 ∷ Mark 35 ∷ num (2 * n) ∷ Mark 93 ∷ [];
      split = refl;
      none = refl;
      said = rw (low_read rd _ i, register_read rb _ b, number_read (2 * n) _ m, lt-ltb _ _ k, scaled_2 n s) refl;
    }
half_said false n rb rd h k i =
    let b : rb < 16 = omega arith in
    let s : n < 2 ^ 16 = omega arith in
    let m : 2 * n < 2 ^ 32 = omega arith in
    record {
      word = codes "strh";
      rest = reg rd ∷ Mark 44 ∷ Mark 91 ∷ reg rb ∷ Mark 44 ∷ Mark 35 ∷ num (2 * n) ∷ Mark 93 ∷ [];
      split = refl;
      none = refl;
      said = rw (low_read rd _ i, register_read rb _ b, number_read (2 * n) _ m, lt-ltb _ _ k, scaled_2 n s) refl;
    }

address_said : (p : Bool) (rd n : ℕ) → rd < 8 → n < 256
    → Said (Format12 p rd n) (tokens_of (two_number_pieces (codes "add") rd (cond p 13 15) (4 * n)))
unfolding directive_of thumb_statement thumb_name other_of form_of add_form add_register add_number
address_said true rd n h k =
    let a : rd < 16 = omega arith in
    let s : n < 2 ^ 16 = omega arith in
    let m : 4 * n < 2 ^ 32 = omega arith in
    record {
      word = codes "add";
      rest = reg rd ∷ Mark 44 ∷ reg 13 ∷ Mark 44 ∷ Mark 35 ∷ num (4 * n) ∷ [];
      split = refl;
      none = refl;
      said =
          rw (register_read rd _ a, register_read 13 _ (lit< tt), lt-ltb _ _ h, number_read (4 * n) _ m, scaled_4 n s)
          refl;
    }
address_said false rd n h k =
    let a : rd < 16 = omega arith in
    let s : n < 2 ^ 16 = omega arith in
    let m : 4 * n < 2 ^ 32 = omega arith in
    record {
      word = codes "add";
      rest = reg rd ∷ Mark 44 ∷ reg 15 ∷ Mark 44 ∷ Mark 35 ∷ num (4 * n) ∷ [];
      split = refl;
      none = refl;
      said =
          rw (register_read rd _ a, register_read 15 _ (lit< tt), lt-ltb _ _ h, number_read (4 * n) _ m, scaled_4 n s)
          refl;
    }

adjust_said : (down : Bool) (n : ℕ) → n < 128
    → Said (Format13 down n) (tokens_of (number_pieces (sum_name down) 13 (4 * n)))
unfolding directive_of thumb_statement thumb_name other_of form_of add_form subtract_form adjust_form
adjust_said false n k =
    let s : n < 2 ^ 16 = omega arith in
    let m : 4 * n < 2 ^ 32 = omega arith in
    record {
      word = codes "add";
      rest = reg 13 ∷ Mark 44 ∷ Mark 35 ∷ num (4 * n) ∷ [];
      split = refl;
      none = refl;
      said = rw (register_read 13 _ (lit< tt), number_read (4 * n) _ m, scaled_4 n s) refl;
    }
adjust_said true n k =
    let s : n < 2 ^ 16 = omega arith in
    let m : 4 * n < 2 ^ 32 = omega arith in
    record {
      word = codes "sub";
      rest = reg 13 ∷ Mark 44 ∷ Mark 35 ∷ num (4 * n) ∷ [];
      split = refl;
      none = refl;
      said = rw (register_read 13 _ (lit< tt), number_read (4 * n) _ m, scaled_4 n s) refl;
    }

interrupt_said : (n : ℕ) → n < 256 → Said (Format17 n) (Word (codes "swi") ∷ Mark 35 ∷ num n ∷ [])
unfolding directive_of thumb_statement thumb_name other_of form_of interrupt_form
interrupt_said n k =
    let s : n < 2 ^ 16 = omega arith in
    let m : n < 2 ^ 32 = omega arith in
    record {
      word = codes "swi";
      rest = Mark 35 ∷ num n ∷ [];
      split = refl;
      none = refl;
      said = rw (immediate_read n _ m, scaled_1 n s) refl;
    }

stacked_said : (l r : Bool) (list : ℕ) → list < 256
    → Said (Format14 l r list) (Word (stack_name l) ∷ tokens_of (braces (stack_list l r list)))
unfolding directive_of
stacked_said true r list h = record {
  word = codes "pop";
  rest = tokens_of (braces (stack_list true r list));
  split = refl;
  none = refl;
  said = pop_said r list h;
}
stacked_said false r list h = record {
  word = codes "push";
  rest = tokens_of (braces (stack_list false r list));
  split = refl;
  none = refl;
  said = push_said r list h;
}

moved_said : (l : Bool) (rb list : ℕ) → rb < 8 → list < 256
    → Said (Format15 l rb list) (tokens_of (block_pieces l rb list))
unfolding directive_of thumb_statement thumb_name other_of form_of
moved_said true rb list h k = record {
  word = codes "ldmia";
  rest = reg rb ∷ Mark 33 ∷ Mark 44 ∷ tokens_of (braces list);
  split = refl;
  none = refl;
  said = block_said true rb list h k;
}
moved_said false rb list h k = record {
  word = codes "stmia";
  rest = reg rb ∷ Mark 33 ∷ Mark 44 ∷ tokens_of (braces list);
  split = refl;
  none = refl;
  said = block_said false rb list h k;
}

-- where a branch leads is so many halfwords from it
halves_by : (reach d n : ℕ) → d % 2 ≡ 0 → is_within reach d ≡ true → d / 2 % reach ≡ n → halfwords reach d ≡ Some n
halves_by reach d n e w q = rw (e, w, q) refl

near : (reach d : ℕ) → d < reach → is_within reach d ≡ true
near reach d h = rw (lt-ltb _ _ h) refl

or_true : (t : Bool) → (t || true) ≡ true
or_true true = refl
or_true false = refl

behind : (reach d : ℕ) → 2 ^ 32 - 1 - d < reach → is_within reach d ≡ true
behind reach d h = rw (lt-ltb _ _ h) (or_true (nat_lt d reach))

back_128 : (at n : ℕ) (t : Bool) → nat_lt n 128 ≡ t → at ≤ 33554432 → n < 256
    → halfwords 256 (distance at (cond t ((at + 4 + 2 * n) % 2 ^ 32) ((at + 4 + 2 ^ 32 + 2 * n - 4 * 128) % 2 ^ 32)))
    ≡ Some n
back_128 at n true e a h =
    let low : n < 128 = grind (arith, nat_tests) in
    let d : distance at ((at + 4 + 2 * n) % 2 ^ 32) ≡ 2 * n = omega arith in
    rw d (halves_by 256 (2 * n) n (omega arith) (near 256 (2 * n) (omega arith)) (omega arith))
back_128 at n false e a h =
    let high : 128 ≤ n = grind (arith, nat_tests) in
    let d : distance at ((at + 4 + 2 ^ 32 + 2 * n - 4 * 128) % 2 ^ 32) ≡ 2 ^ 32 - 512 + 2 * n = omega arith in
    rw d (halves_by 256 (2 ^ 32 - 512 + 2 * n) n (omega arith) (behind 256 (2 ^ 32 - 512 + 2 * n) (omega arith))
    (omega arith))

back_1024 : (at n : ℕ) (t : Bool) → nat_lt n 1024 ≡ t → at ≤ 33554432 → n < 2048
    → halfwords 2048 (distance at (cond t ((at + 4 + 2 * n) % 2 ^ 32) ((at + 4 + 2 ^ 32 + 2 * n - 4 * 1024) % 2 ^ 32)))
    ≡ Some n
back_1024 at n true e a h =
    let low : n < 1024 = grind (arith, nat_tests) in
    let d : distance at ((at + 4 + 2 * n) % 2 ^ 32) ≡ 2 * n = omega arith in
    rw d (halves_by 2048 (2 * n) n (omega arith) (near 2048 (2 * n) (omega arith)) (omega arith))
back_1024 at n false e a h =
    let high : 1024 ≤ n = grind (arith, nat_tests) in
    let d : distance at ((at + 4 + 2 ^ 32 + 2 * n - 4 * 1024) % 2 ^ 32) ≡ 2 ^ 32 - 4096 + 2 * n = omega arith in
    rw d (halves_by 2048 (2 ^ 32 - 4096 + 2 * n) n (omega arith) (behind 2048 (2 ^ 32 - 4096 + 2 * n) (omega arith))
    (omega arith))

back_call : (at n : ℕ) (t : Bool) → nat_lt n 2097152 ≡ t → at ≤ 33554432 → n < 4194304
    → halfwords 4194304
    (distance at (cond t ((at + 4 + 2 * n) % 2 ^ 32) ((at + 4 + 2 ^ 32 + 2 * n - 4 * 2097152) % 2 ^ 32)))
    ≡ Some n
back_call at n true e a h =
    let low : n < 2097152 = grind (arith, nat_tests) in
    let d : distance at ((at + 4 + 2 * n) % 2 ^ 32) ≡ 2 * n = omega arith in
    rw d (halves_by 4194304 (2 * n) n (omega arith) (near 4194304 (2 * n) (omega arith)) (omega arith))
back_call at n false e a h =
    let high : 2097152 ≤ n = grind (arith, nat_tests) in
    let d : distance at ((at + 4 + 2 ^ 32 + 2 * n - 4 * 2097152) % 2 ^ 32) ≡ 2 ^ 32 - 8388608 + 2 * n = omega arith in
    rw d (halves_by 4194304 (2 ^ 32 - 8388608 + 2 * n) n (omega arith)
    (behind 4194304 (2 ^ 32 - 8388608 + 2 * n) (omega arith)) (omega arith))

target_by : (at n reach : ℕ) (t : Bool)
    → cond t ((at + 4 + 2 * n) % 2 ^ 32) ((at + 4 + 2 ^ 32 + 2 * n - 4 * reach) % 2 ^ 32) < 2 ^ 32
target_by at n reach true = mod_below (at + 4 + 2 * n) (2 ^ 32) (lit< tt)
target_by at n reach false = mod_below (at + 4 + 2 ^ 32 + 2 * n - 4 * reach) (2 ^ 32) (lit< tt)

target_small : (reach at n : ℕ) → branch_target reach at n < 2 ^ 32
target_small reach at n = target_by at n reach (nat_lt n reach)

jump_said : (target : ℕ) → target < 2 ^ 32
    → thumb_statement (codes "b") (Word (digits_text 8 target) ∷ []) ≡ Ok (Branch (Address target))
unfolding thumb_statement thumb_name other_of form_of branch_form
jump_said target h = rw (address_read target _ h) refl

bl_said : (target : ℕ) → target < 2 ^ 32
    → thumb_statement (codes "bl") (Word (digits_text 8 target) ∷ []) ≡ Ok (Call (Address target))
unfolding thumb_statement thumb_name other_of form_of call_form
bl_said target h = rw (address_read target _ h) refl

-- a conditional branch's word is no directive, and says the branch
record SaysBranch (c target : ℕ) : Type 0 where
  none : directive_of (branch_name c) ≡ None
  said : thumb_statement (branch_name c) (Word (digits_text 8 target) ∷ []) ≡ Ok (BranchIf c (Address target))

branch_said : (c target : ℕ) → c < 14 → target < 2 ^ 32 → SaysBranch c target
unfolding directive_of thumb_statement thumb_name other_of access_of two_register_of condition_of form_of branch_if_form
branch_said zero target h k = record { none = refl; said = rw (address_read target _ k) refl }
branch_said (suc zero) target h k = record { none = refl; said = rw (address_read target _ k) refl }
branch_said (suc (suc zero)) target h k = record { none = refl; said = rw (address_read target _ k) refl }
branch_said (suc (suc (suc zero))) target h k = record { none = refl; said = rw (address_read target _ k) refl }
branch_said (suc (suc (suc (suc zero)))) target h k = record { none = refl; said = rw (address_read target _ k) refl }
branch_said (suc (suc (suc (suc (suc zero))))) target h k =
    record { none = refl; said = rw (address_read target _ k) refl }
branch_said (suc (suc (suc (suc (suc (suc zero)))))) target h k =
    record { none = refl; said = rw (address_read target _ k) refl }
branch_said (suc (suc (suc (suc (suc (suc (suc zero))))))) target h k =
    record { none = refl; said = rw (address_read target _ k) refl }
branch_said (suc (suc (suc (suc (suc (suc (suc (suc zero)))))))) target h k =
    record { none = refl; said = rw (address_read target _ k) refl }
branch_said (suc (suc (suc (suc (suc (suc (suc (suc (suc zero))))))))) target h k =
    record { none = refl; said = rw (address_read target _ k) refl }
branch_said (suc (suc (suc (suc (suc (suc (suc (suc (suc (suc zero)))))))))) target h k =
    record { none = refl; said = rw (address_read target _ k) refl }
branch_said (suc (suc (suc (suc (suc (suc (suc (suc (suc (suc (suc zero))))))))))) target h k =
    record { none = refl; said = rw (address_read target _ k) refl }
branch_said (suc (suc (suc (suc (suc (suc (suc (suc (suc (suc (suc (suc zero)))))))))))) target h k =
    record { none = refl; said = rw (address_read target _ k) refl }
branch_said (suc (suc (suc (suc (suc (suc (suc (suc (suc (suc (suc (suc (suc zero))))))))))))) target h k =
    record { none = refl; said = rw (address_read target _ k) refl }
branch_said (suc (suc (suc (suc (suc (suc (suc (suc (suc (suc (suc (suc (suc (suc c)))))))))))))) target h k =
    absurd (omega arith)

operation_line : (at half : ℕ) (op : ThumbOp) (tokens : List Token) → Said op tokens → encoding op ≡ Ok half
    → at % 2 ≡ 0 → at + 2 ≤ 33554432 → Tells true at tokens (to_le_bytes w16 half)
unfolding operations_at
operation_line at half op tokens s e even room =
    rw s.split (thumb_line at 0 half s.word s.rest (Operation (Some op)) op s.none s.said refl refl e refl even room)

none_b : directive_of (codes "b") ≡ None
unfolding directive_of
none_b = refl

none_bl : directive_of (codes "bl") ≡ None
unfolding directive_of
none_bl = refl

jump_line : (at half n : ℕ) → n < 2048 → encoding (Format18 n) ≡ Ok half → at % 2 ≡ 0 → at + 2 ≤ 33554432
    → Tells true at (tokens_of (branch_pieces (codes "b") (branch_target 1024 at n))) (to_le_bytes w16 half)
unfolding operations_at
jump_line at half n h e even room =
    let target = branch_target 1024 at n in
    thumb_line at target half (codes "b") (Word (digits_text 8 target) ∷ []) (Branch (Address target))
    (Format18 n) none_b
    (jump_said target (target_small 1024 at n)) refl (rw (back_1024 at n (nat_lt n 1024) refl (omega arith) h) refl) e
    refl even room

branch_line : (at half c n : ℕ) → c < 14 → n < 256 → encoding (Format16 c n) ≡ Ok half → at % 2 ≡ 0 → at + 2 ≤ 33554432
    → Tells true at (tokens_of (branch_pieces (branch_name c) (branch_target 128 at n))) (to_le_bytes w16 half)
unfolding operations_at
branch_line at half c n k h e even room =
    let target = branch_target 128 at n in
    let s = branch_said c target k (target_small 128 at n) in
    thumb_line at target half (branch_name c) (Word (digits_text 8 target) ∷ []) (BranchIf c (Address target))
    (Format16 c n) s.none s.said refl (rw (back_128 at n (nat_lt n 128) refl (omega arith) h) refl) e refl even room

-- BL comes to its two halves
pub call_tells : (at first second n : ℕ) → n < 4194304 → encoding (Format19 false (n / 2048)) ≡ Ok first
    → encoding (Format19 true (n % 2048)) ≡ Ok second → at % 2 ≡ 0 → at + 4 ≤ 33554432
    → Tells true at (tokens_of (branch_pieces (codes "bl") (branch_target 2097152 at n)))
    (to_le_bytes w16 first ++ to_le_bytes w16 second)
unfolding operations_at
call_tells at first second n h e f even room =
    let target = branch_target 2097152 at n in
    call_line at target first second (codes "bl") (Word (digits_text 8 target) ∷ []) (Call (Address target))
    (Format19 false (n / 2048)) (Format19 true (n % 2048)) none_bl (bl_said target (target_small 2097152 at n)) refl
    (rw (back_call at n (nat_lt n 2097152) refl (omega arith) h) refl) e f refl even room

-- the statement of an operation that it tells comes to its halfword
pub thumb_tells : (at half : ℕ) (op : ThumbOp) → Fits op → is_told op ≡ true → encoding op ≡ Ok half → at % 2 ≡ 0
    → at + 2 ≤ 33554432 → Tells true at (tokens_of (thumb_pieces at op)) (to_le_bytes w16 half)
unfolding thumb_pieces
thumb_tells at half (Format1 op o5 rs rd) h told e even room =
    operation_line at half _ _ (shift_said op o5 rs rd h.immediates.1.0 h.registers.0 h.registers.1.0 h.immediates.0) e
    even room
thumb_tells at half (Format2 true t x3 rs rd) h told e even room =
    operation_line at half _ _ (sum_said true t x3 rs rd h.immediates.0 h.registers.0 h.registers.1.0) e even room
thumb_tells at half (Format2 false t x3 rs rd) h told e even room =
    operation_line at half _ _ (sum_said false t x3 rs rd h.registers.0 h.registers.1.0 h.registers.1.1.0) e even room
thumb_tells at half (Format3 op rd n8) h told e even room =
    operation_line at half _ _ (number_said op rd n8 h.registers.0 h.immediates.1.0 h.immediates.0) e even room
thumb_tells at half (Format4 op rs rd) h told e even room =
    operation_line at half _ _ (operation_said op rs rd h.registers.0 h.registers.1.0 h.immediates.0) e even room
thumb_tells at half (Format5 op h1 h2 rs rd) h told e even room =
    operation_line at half _ _ (high_said op h1 h2 rs rd h.registers.0 h.registers.1.0 h.immediates.0 told) e even room
thumb_tells at half (Format6 rd n8) h told e even room =
    operation_line at half _ _ (counter_said rd n8 h.registers.0 h.offsets.0) e even room
thumb_tells at half (Format7 l b ro rb rd) h told e even room =
    operation_line at half _ _ (register_said l b ro rb rd h.registers.0 h.registers.1.0 h.registers.1.1.0) e even room
thumb_tells at half (Format8 hh s ro rb rd) h told e even room =
    operation_line at half _ _ (signed_said hh s ro rb rd h.registers.0 h.registers.1.0 h.registers.1.1.0) e even room
thumb_tells at half (Format9 b l o5 rb rd) h told e even room =
    operation_line at half _ _ (offset_said b l o5 rb rd h.offsets.0 h.registers.0 h.registers.1.0) e even room
thumb_tells at half (Format10 l o5 rb rd) h told e even room =
    operation_line at half _ _ (half_said l o5 rb rd h.offsets.0 h.registers.0 h.registers.1.0) e even room
thumb_tells at half (Format11 l rd n8) h told e even room =
    operation_line at half _ _ (stack_said l rd n8 h.registers.0 h.offsets.0) e even room
thumb_tells at half (Format12 p rd n8) h told e even room =
    operation_line at half _ _ (address_said p rd n8 h.registers.0 h.immediates.0) e even room
thumb_tells at half (Format13 s n7) h told e even room =
    operation_line at half _ _ (adjust_said s n7 h.immediates.0) e even room
thumb_tells at half (Format14 l r list8) h told e even room =
    operation_line at half _ _ (stacked_said l r list8 h.immediates.0) e even room
thumb_tells at half (Format15 l rb list8) h told e even room =
    operation_line at half _ _ (moved_said l rb list8 h.registers.0 h.immediates.0) e even room
thumb_tells at half (Format16 c n8) h told e even room = branch_line at half c n8 h.immediates.0 h.offsets.0 e even room
thumb_tells at half (Format17 n8) h told e even room =
    operation_line at half _ _ (interrupt_said n8 h.immediates.0) e even room
thumb_tells at half (Format18 n11) h told e even room = jump_line at half n11 h.offsets.0 e even room
thumb_tells at half (Format19 second n11) h told e even room = absurd cc
