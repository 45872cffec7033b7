-- The forms of Thumb statements: what a name says with its operands. The operands as they are written choose the
-- format, and never their values (GBATEK, THUMB.1 to THUMB.19).
use Rattle.std.specs.Prelude.{ℕ, ◌-◌, ◌/◌, ◌%◌, ◌^◌, Bool, true, false, nat_le, nat_lt, ◌&&◌, ◌==◌, List, Option, Some, None, option_map, Result, Ok, Err, if◌then◌else◌}
use Rattle.gba_word.specs.declared.kinds.Shift.{Shift}
use Rattle.gba_word.specs.declared.kinds.Shift.TheVariants.{Lsl, Lsr, Asr, Ror}
use Rattle.gba_arm_table.specs.Numbers.{shift_number}
use Rattle.gba_thumb_table.specs.declared.operation.ThumbOp.{ThumbOp}
use Rattle.gba_thumb_table.specs.declared.operation.ThumbOp.TheVariants.{Format1, Format2, Format3, Format4, Format5, Format6, Format7, Format8, Format9, Format10, Format11, Format12, Format13, Format14, Format15, Format17}
use Rattle.gba_text.specs.Steps.{◌>>=◌, holds, Taken}
use Rattle.gba_asm_words.specs.declared.kinds.AsmKind.{AsmKind}
use Rattle.gba_asm_words.specs.declared.kinds.AsmKind.TheVariants as kind
use Rattle.gba_asm_words.specs.Lists.{list_at}
use Rattle.gba_asm_words.specs.Readers.{begins, other_tokens, mark_at, end_at, register_at, number_at, immediate_at, target_at}
use Rattle.gba_asm_words.specs.Tokens.{Token}
use Rattle.gba_asm_arm.specs.Operands.{amount_of}
use Rattle.gba_asm_thumb.specs.declared.names.Access.{Access}
use Rattle.gba_asm_thumb.specs.declared.names.Access.TheVariants as access
use Rattle.gba_asm_thumb.specs.declared.names.ThumbName.{ThumbName}
use Rattle.gba_asm_thumb.specs.declared.names.ThumbName.TheVariants as name
use Rattle.gba_asm_thumb.specs.Names.{thumb_name}
use Rattle.gba_asm_thumb.specs.Statement.{ThumbStatement, Operation, Branch, BranchIf, Call}

-- an operation that stands whole
abbrev pub whole : Option ThumbOp → List Token → Result ThumbStatement AsmKind
whole op tokens = end_at tokens >>= (λ _. Ok (Operation op))

abbrev pub is_low : ℕ → Bool
is_low register = nat_lt register 8

abbrev pub only_low : Taken (List Token) ℕ → Result (Taken (List Token) ℕ) AsmKind
only_low t = if is_low t.value then Ok t else Err kind.Operand

-- a register from r0 to r7
unfoldable pub low_register_at : List Token → Result (Taken (List Token) ℕ) AsmKind
low_register_at tokens = register_at tokens >>= only_low

-- a comma (44) and such a register
unfoldable pub next_low_register_at : List Token → Result (Taken (List Token) ℕ) AsmKind
next_low_register_at tokens = mark_at 44 tokens >>= (λ comma. low_register_at comma.left)

-- a number of bytes as a number of units of so many, None where it isn't whole or too large for any field
abbrev pub scaled : ℕ → ℕ → Option ℕ
scaled number unit = if number % unit == 0 && nat_lt (number / unit) (2 ^ 16) then Some (number / unit) else None

-- format 4's numbers of the shifts
abbrev pub shift_operation : Shift → ℕ
shift_operation Lsl = 2
shift_operation Lsr = 3
shift_operation Asr = 4
shift_operation Ror = 7

abbrev pub shifted : Shift → ℕ → ℕ → Option ℕ → Option ThumbOp
shifted shift rd rs amount = option_map (λ o5. Format1 (shift_number shift) o5 rs rd) amount

-- `rd, rs, #n`, format 1
unfoldable pub fixed_shift : Shift → ℕ → ℕ → List Token → Result ThumbStatement AsmKind
fixed_shift shift rd rs tokens = do
  n ← immediate_at tokens
  whole (shifted shift rd rs (amount_of shift n.value)) n.left

abbrev pub shift_rest : Shift → ℕ → ℕ → List Token → Result ThumbStatement AsmKind
shift_rest shift rd rs tokens =
    if begins 44 tokens then fixed_shift shift rd rs (other_tokens tokens)
    else whole (Some (Format4 (shift_operation shift) rs rd)) tokens

-- `rd, rs, #n` and `rd, rs`
unfoldable pub shift_form : Shift → List Token → Result ThumbStatement AsmKind
shift_form shift tokens = do
  rd ← low_register_at tokens
  rs ← next_low_register_at rd.left
  shift_rest shift rd.value rs.value rs.left

-- `rd, rs`, format 4
unfoldable pub two_register_form : ℕ → List Token → Result ThumbStatement AsmKind
two_register_form number tokens = do
  rd ← low_register_at tokens
  rs ← next_low_register_at rd.left
  whole (Some (Format4 number rs.value rd.value)) rs.left

-- a number after `#`, format 3
unfoldable pub number_form : ℕ → ℕ → List Token → Result ThumbStatement AsmKind
number_form op rd tokens = do
  _ ← holds (is_low rd) kind.Operand
  n ← number_at tokens
  whole (option_map (Format3 op rd) (scaled n.value 1)) n.left

-- format 5
abbrev pub high : ℕ → ℕ → ℕ → ThumbOp
high op rd rs = Format5 op (nat_le 8 rd) (nat_le 8 rs) (rs % 8) (rd % 8)

unfoldable pub move_register : ℕ → List Token → Result ThumbStatement AsmKind
move_register rd tokens = register_at tokens >>= (λ rs. whole (Some (high 2 rd rs.value)) rs.left)

abbrev pub move_rest : ℕ → List Token → Result ThumbStatement AsmKind
move_rest rd tokens =
    if begins 35 tokens then number_form 0 rd (other_tokens tokens) else move_register rd tokens

-- `rd, #n` and `rd, rs`
unfoldable pub move_form : List Token → Result ThumbStatement AsmKind
move_form tokens = do
  rd ← register_at tokens
  comma ← mark_at 44 rd.left
  move_rest rd.value comma.left

-- two low registers are compared by format 4
abbrev pub compared : ℕ → ℕ → ThumbOp
compared rd rs = if is_low rd && is_low rs then Format4 10 rs rd else high 1 rd rs

unfoldable pub compare_register : ℕ → List Token → Result ThumbStatement AsmKind
compare_register rd tokens = register_at tokens >>= (λ rs. whole (Some (compared rd rs.value)) rs.left)

abbrev pub compare_rest : ℕ → List Token → Result ThumbStatement AsmKind
compare_rest rd tokens =
    if begins 35 tokens then number_form 1 rd (other_tokens tokens) else compare_register rd tokens

-- `rd, #n` and `rd, rs`
unfoldable pub compare_form : List Token → Result ThumbStatement AsmKind
compare_form tokens = do
  rd ← register_at tokens
  comma ← mark_at 44 rd.left
  compare_rest rd.value comma.left

-- `sp, #n`, format 13
unfoldable pub adjust_form : Bool → List Token → Result ThumbStatement AsmKind
adjust_form down tokens = number_at tokens >>= (λ n. whole (option_map (Format13 down) (scaled n.value 4)) n.left)

-- a number after `rd, #`; r13 goes by format 13
abbrev pub changed_by_number : ℕ → Bool → ℕ → List Token → Result ThumbStatement AsmKind
changed_by_number op down rd tokens = if rd == 13 then adjust_form down tokens else number_form op rd tokens

-- `rd, rs, rn`, format 2
unfoldable pub three_register_form : Bool → ℕ → ℕ → List Token → Result ThumbStatement AsmKind
three_register_form down rd rs tokens = do
  _ ← holds (is_low rd && is_low rs) kind.Operand
  rn ← low_register_at tokens
  whole (Some (Format2 false down rn.value rs rd)) rn.left

-- a number added to a low register, to r13 or to r15: formats 2 and 12
abbrev pub sum_of : ℕ → ℕ → ℕ → Result (Option ThumbOp) AsmKind
sum_of rd rs number =
    if is_low rs then Ok (option_map (λ x3. Format2 true false x3 rs rd) (scaled number 1))
    else if rs == 13 then Ok (option_map (Format12 true rd) (scaled number 4))
    else if rs == 15 then Ok (option_map (Format12 false rd) (scaled number 4))
    else Err kind.Operand

-- `rd, rs, #n`, `rd, sp, #n` and `rd, pc, #n`
unfoldable pub add_number : ℕ → ℕ → List Token → Result ThumbStatement AsmKind
add_number rd rs tokens = do
  _ ← holds (is_low rd) kind.Operand
  n ← number_at tokens
  op ← sum_of rd rs n.value
  whole op n.left

abbrev pub add_last : ℕ → ℕ → List Token → Result ThumbStatement AsmKind
add_last rd rs tokens =
    if begins 35 tokens then add_number rd rs (other_tokens tokens) else three_register_form false rd rs tokens

abbrev pub add_third : ℕ → ℕ → List Token → Result ThumbStatement AsmKind
add_third rd rs tokens =
    if begins 44 tokens then add_last rd rs (other_tokens tokens) else whole (Some (high 0 rd rs)) tokens

unfoldable pub add_register : ℕ → List Token → Result ThumbStatement AsmKind
add_register rd tokens = register_at tokens >>= (λ rs. add_third rd rs.value rs.left)

abbrev pub add_rest : ℕ → List Token → Result ThumbStatement AsmKind
add_rest rd tokens =
    if begins 35 tokens then changed_by_number 2 false rd (other_tokens tokens) else add_register rd tokens

-- `rd, #n`, `sp, #n`, `rd, rs`, `rd, rs, rn`, `rd, rs, #n`, `rd, sp, #n` and `rd, pc, #n`
unfoldable pub add_form : List Token → Result ThumbStatement AsmKind
add_form tokens = do
  rd ← register_at tokens
  comma ← mark_at 44 rd.left
  add_rest rd.value comma.left

-- `rd, rs, #n`, format 2
unfoldable pub subtract_number : ℕ → ℕ → List Token → Result ThumbStatement AsmKind
subtract_number rd rs tokens = do
  _ ← holds (is_low rd && is_low rs) kind.Operand
  n ← number_at tokens
  whole (option_map (λ x3. Format2 true true x3 rs rd) (scaled n.value 1)) n.left

abbrev pub subtract_last : ℕ → ℕ → List Token → Result ThumbStatement AsmKind
subtract_last rd rs tokens =
    if begins 35 tokens then subtract_number rd rs (other_tokens tokens) else three_register_form true rd rs tokens

unfoldable pub subtract_register : ℕ → List Token → Result ThumbStatement AsmKind
subtract_register rd tokens = do
  rs ← register_at tokens
  comma ← mark_at 44 rs.left
  subtract_last rd rs.value comma.left

abbrev pub subtract_rest : ℕ → List Token → Result ThumbStatement AsmKind
subtract_rest rd tokens =
    if begins 35 tokens then changed_by_number 3 true rd (other_tokens tokens) else subtract_register rd tokens

-- `rd, #n`, `sp, #n`, `rd, rs, rn` and `rd, rs, #n`
unfoldable pub subtract_form : List Token → Result ThumbStatement AsmKind
subtract_form tokens = do
  rd ← register_at tokens
  comma ← mark_at 44 rd.left
  subtract_rest rd.value comma.left

-- `rs`
unfoldable pub exchange_form : List Token → Result ThumbStatement AsmKind
exchange_form tokens = register_at tokens >>= (λ rs. whole (Some (high 3 0 rs.value)) rs.left)

-- `[rb, ro]`, formats 7 and 8
abbrev pub by_register : Bool → Access → ℕ → ℕ → ℕ → ThumbOp
by_register load access.Word ro rb rd = Format7 load false ro rb rd
by_register load access.Byte ro rb rd = Format7 load true ro rb rd
by_register load access.Half ro rb rd = Format8 load false ro rb rd
by_register load access.SignedByte ro rb rd = Format8 false true ro rb rd
by_register load access.SignedHalf ro rb rd = Format8 true true ro rb rd

-- `[rb, #n]`, formats 9 and 10
abbrev pub by_low : Bool → Access → ℕ → ℕ → ℕ → Result (Option ThumbOp) AsmKind
by_low load access.Word rb rd number = Ok (option_map (λ o5. Format9 false load o5 rb rd) (scaled number 4))
by_low load access.Byte rb rd number = Ok (option_map (λ o5. Format9 true load o5 rb rd) (scaled number 1))
by_low load access.Half rb rd number = Ok (option_map (λ o5. Format10 load o5 rb rd) (scaled number 2))
by_low load access.SignedByte rb rd number = Err kind.Operand
by_low load access.SignedHalf rb rd number = Err kind.Operand

-- `[sp, #n]`, format 11
abbrev pub by_stack : Bool → Access → ℕ → ℕ → Result (Option ThumbOp) AsmKind
by_stack load access.Word rd number = Ok (option_map (Format11 load rd) (scaled number 4))
by_stack load _ rd number = Err kind.Operand

-- `[pc, #n]`, format 6, which loads
abbrev pub by_counter : Bool → Access → ℕ → ℕ → Result (Option ThumbOp) AsmKind
by_counter true access.Word rd number = Ok (option_map (Format6 rd) (scaled number 4))
by_counter load _ rd number = Err kind.Operand

abbrev pub by_number : Bool → Access → ℕ → ℕ → ℕ → Result (Option ThumbOp) AsmKind
by_number load access rb rd number =
    if is_low rb then by_low load access rb rd number
    else if rb == 13 then by_stack load access rd number
    else if rb == 15 then by_counter load access rd number
    else Err kind.Operand

unfoldable pub register_access : Bool → Access → ℕ → ℕ → List Token → Result ThumbStatement AsmKind
register_access load access rd rb tokens = do
  _ ← holds (is_low rb) kind.Operand
  ro ← low_register_at tokens
  bracket ← mark_at 93 ro.left
  whole (Some (by_register load access ro.value rb rd)) bracket.left

unfoldable pub number_access : Bool → Access → ℕ → ℕ → List Token → Result ThumbStatement AsmKind
number_access load access rd rb tokens = do
  n ← number_at tokens
  bracket ← mark_at 93 n.left
  op ← by_number load access rb rd n.value
  whole op bracket.left

abbrev pub access_rest : Bool → Access → ℕ → ℕ → List Token → Result ThumbStatement AsmKind
access_rest load access rd rb tokens =
    if begins 35 tokens then number_access load access rd rb (other_tokens tokens)
    else register_access load access rd rb tokens

-- `rd, [rb, ro]` and `rd, [rb, #n]`
unfoldable pub transfer_form : Bool → Access → List Token → Result ThumbStatement AsmKind
transfer_form load access tokens = do
  rd ← low_register_at tokens
  comma ← mark_at 44 rd.left
  bracket ← mark_at 91 comma.left
  rb ← register_at bracket.left
  second ← mark_at 44 rb.left
  access_rest load access rd.value rb.value second.left

-- the registers from r0 to r7, and one more whose bit in a list has this weight
abbrev pub stacked : Bool → ℕ → ℕ → Result (Option ThumbOp) AsmKind
stacked load weight list =
    if nat_lt list 256 then Ok (Some (Format14 load false list))
    else if nat_le weight list && nat_lt (list - weight) 256 then Ok (Some (Format14 load true (list - weight)))
    else Err kind.Operand

-- `{LIST}`, format 14
unfoldable pub stack_form : Bool → ℕ → List Token → Result ThumbStatement AsmKind
stack_form load weight tokens = do
  list ← list_at tokens
  op ← stacked load weight list.value
  whole op list.left

-- `rb!, {LIST}` (33 is `!`), format 15
unfoldable pub block_form : Bool → List Token → Result ThumbStatement AsmKind
block_form load tokens = do
  rb ← low_register_at tokens
  write ← mark_at 33 rb.left
  comma ← mark_at 44 write.left
  list ← list_at comma.left
  _ ← holds (nat_lt list.value 256) kind.Operand
  whole (Some (Format15 load rb.value list.value)) list.left

-- `#n`, format 17
unfoldable pub interrupt_form : List Token → Result ThumbStatement AsmKind
interrupt_form tokens = immediate_at tokens >>= (λ n. whole (option_map Format17 (scaled n.value 1)) n.left)

-- `TARGET`
unfoldable pub branch_form : List Token → Result ThumbStatement AsmKind
branch_form tokens = do
  target ← target_at tokens
  _ ← end_at target.left
  Ok (Branch target.value)

unfoldable pub branch_if_form : ℕ → List Token → Result ThumbStatement AsmKind
branch_if_form cond tokens = do
  target ← target_at tokens
  _ ← end_at target.left
  Ok (BranchIf cond target.value)

unfoldable pub call_form : List Token → Result ThumbStatement AsmKind
call_form tokens = do
  target ← target_at tokens
  _ ← end_at target.left
  Ok (Call target.value)

-- the form of each name; PUSH takes r14 too, and POP r15
unfoldable pub form_of : ThumbName → List Token → Result ThumbStatement AsmKind
form_of (name.Shifted shift) tokens = shift_form shift tokens
form_of name.Move tokens = move_form tokens
form_of name.Compare tokens = compare_form tokens
form_of name.Add tokens = add_form tokens
form_of name.Subtract tokens = subtract_form tokens
form_of (name.TwoRegisters number) tokens = two_register_form number tokens
form_of name.Exchange tokens = exchange_form tokens
form_of (name.Transfer load access) tokens = transfer_form load access tokens
form_of name.Push tokens = stack_form false 16384 tokens
form_of name.Pop tokens = stack_form true 32768 tokens
form_of (name.Block load) tokens = block_form load tokens
form_of name.Branch tokens = branch_form tokens
form_of (name.BranchIf cond) tokens = branch_if_form cond tokens
form_of name.Call tokens = call_form tokens
form_of name.Interrupt tokens = interrupt_form tokens

abbrev pub named_form : Option ThumbName → List Token → Result ThumbStatement AsmKind
named_form (Some name) tokens = form_of name tokens
named_form None tokens = Err kind.Unknown

-- what a statement's name says with the tokens after it; a name that no statement has is Unknown
unfoldable pub thumb_statement : List ℕ → List Token → Result ThumbStatement AsmKind
thumb_statement word tokens = named_form (thumb_name word) tokens
