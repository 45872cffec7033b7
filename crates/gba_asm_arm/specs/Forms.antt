-- The forms of ARM statements: what a name says with its operands.
use Rattle.std.specs.Prelude.{ℕ, Bool, true, false, not, ◌&&◌, List, Option, Some, None, option_map, Result, Ok, Err, if◌then◌else◌}
use Rattle.gba_arm_table.specs.declared.operation.ArmOp.{ArmOp}
use Rattle.gba_arm_table.specs.declared.operation.ArmOp.TheVariants as operation
use Rattle.gba_arm_table.specs.declared.operation.CompareOp.{CompareOp}
use Rattle.gba_arm_table.specs.declared.operation.ComputeOp.{ComputeOp}
use Rattle.gba_arm_table.specs.declared.operation.ComputeOp.TheVariants.{Mov, Mvn}
use Rattle.gba_arm_table.specs.declared.operation.Condition.{Condition}
use Rattle.gba_arm_table.specs.declared.operation.HalfKind.{HalfKind}
use Rattle.gba_text.specs.Steps.{◌>>=◌, holds}
use Rattle.gba_asm_words.specs.declared.kinds.AsmKind.{AsmKind}
use Rattle.gba_asm_words.specs.declared.kinds.AsmKind.TheVariants as kind
use Rattle.gba_asm_words.specs.Lists.{list_at}
use Rattle.gba_asm_words.specs.Readers.{begins, after_mark, mark_at, end_at, register_at, next_register_at, immediate_at, target_at}
use Rattle.gba_asm_words.specs.Tokens.{Token}
use Rattle.gba_asm_arm.specs.declared.names.ArmName.{ArmName}
use Rattle.gba_asm_arm.specs.declared.names.Mnemonic.{Mnemonic}
use Rattle.gba_asm_arm.specs.declared.names.Mnemonic.TheVariants as mnemonic
use Rattle.gba_asm_arm.specs.Names.{arm_name}
use Rattle.gba_asm_arm.specs.Operands.{next_second_at, source_at, saved_at, status_at}
use Rattle.gba_asm_arm.specs.Statement.{ArmStatement, Operation, Branch, Load}
use Rattle.gba_asm_arm.specs.Transfers.{address_at, transfer, half_transfer}

-- an operation that stands whole
abbrev pub whole : Option ArmOp → List Token → Result ArmStatement AsmKind
whole op tokens = end_at tokens >>= (λ _. Ok (Operation op))

-- MOV and MVN: `rd, OP`
unfoldable pub move_form : Condition → ComputeOp → Bool → List Token → Result ArmStatement AsmKind
move_form cond op set tokens = do
  rd ← register_at tokens
  second ← next_second_at rd.left
  whole (option_map (operation.Compute cond op set 0 rd.value) second.value) second.left

-- the others that write a register: `rd, rn, OP`
unfoldable pub three_form : Condition → ComputeOp → Bool → List Token → Result ArmStatement AsmKind
three_form cond op set tokens = do
  rd ← register_at tokens
  rn ← next_register_at rd.left
  second ← next_second_at rn.left
  whole (option_map (operation.Compute cond op set rn.value rd.value) second.value) second.left

abbrev pub compute_form : Condition → ComputeOp → Bool → List Token → Result ArmStatement AsmKind
compute_form cond Mov set tokens = move_form cond Mov set tokens
compute_form cond Mvn set tokens = move_form cond Mvn set tokens
compute_form cond op set tokens = three_form cond op set tokens

-- `rn, OP`
unfoldable pub compare_form : Condition → CompareOp → List Token → Result ArmStatement AsmKind
compare_form cond op tokens = do
  rn ← register_at tokens
  second ← next_second_at rn.left
  whole (option_map (operation.Compare cond op rn.value) second.value) second.left

-- `rd, rm, rs`
unfoldable pub multiply_form : Condition → Bool → List Token → Result ArmStatement AsmKind
multiply_form cond set tokens = do
  rd ← register_at tokens
  rm ← next_register_at rd.left
  rs ← next_register_at rm.left
  whole (Some (operation.Multiply cond false set rd.value 0 rs.value rm.value)) rs.left

-- `rd, rm, rs, rn`
unfoldable pub accumulate_form : Condition → Bool → List Token → Result ArmStatement AsmKind
accumulate_form cond set tokens = do
  rd ← register_at tokens
  rm ← next_register_at rd.left
  rs ← next_register_at rm.left
  rn ← next_register_at rs.left
  whole (Some (operation.Multiply cond true set rd.value rn.value rs.value rm.value)) rn.left

-- `lo, hi, rm, rs`
unfoldable pub long_form : Condition → Bool → Bool → Bool → List Token → Result ArmStatement AsmKind
long_form cond signed accumulate set tokens = do
  lo ← register_at tokens
  hi ← next_register_at lo.left
  rm ← next_register_at hi.left
  rs ← next_register_at rm.left
  whole (Some (operation.MultiplyLong cond signed accumulate set hi.value lo.value rs.value rm.value)) rs.left

-- LDR of the word at a target
unfoldable pub load_form : Condition → ℕ → List Token → Result ArmStatement AsmKind
load_form cond rd tokens = do
  target ← target_at tokens
  _ ← end_at target.left
  Ok (Load cond rd target.value)

-- an address; the forms with T take only those whose distance goes on after the access
unfoldable pub access_form : Condition → Bool → Bool → Bool → ℕ → List Token → Result ArmStatement AsmKind
access_form cond load byte user rd tokens = do
  address ← address_at true tokens
  _ ← holds (not (user && address.value.pre)) kind.Operand
  whole (transfer cond load byte user rd address.value) address.left

-- a load of a word whose operand begins with no `[` (91)
abbrev pub is_at_target : Bool → Bool → Bool → List Token → Bool
is_at_target load byte user tokens = load && not byte && not user && not (begins 91 tokens)

abbrev pub load_or_access : Condition → Bool → Bool → Bool → ℕ → List Token → Result ArmStatement AsmKind
load_or_access cond load byte user rd tokens =
    if is_at_target load byte user tokens then load_form cond rd tokens else access_form cond load byte user rd tokens

-- `rd, ADDRESS`, and of LDR `rd, TARGET`
unfoldable pub transfer_form : Condition → Bool → Bool → Bool → List Token → Result ArmStatement AsmKind
transfer_form cond load byte user tokens = do
  rd ← register_at tokens
  comma ← mark_at 44 rd.left
  load_or_access cond load byte user rd.value comma.left

-- `rd, ADDRESS` without a shift
unfoldable pub half_form : Condition → HalfKind → List Token → Result ArmStatement AsmKind
half_form cond half tokens = do
  rd ← register_at tokens
  comma ← mark_at 44 rd.left
  address ← address_at false comma.left
  whole (half_transfer cond half rd.value address.value) address.left

-- `rn, {LIST}`, with `!` (33) after rn and `^` (94) at the end as may be
unfoldable pub block_form : Condition → Bool → Bool → Bool → List Token → Result ArmStatement AsmKind
block_form cond load pre up tokens = do
  rn ← register_at tokens
  comma ← mark_at 44 (after_mark 33 rn.left)
  list ← list_at comma.left
  whole (Some (operation.Block cond load pre up (begins 94 list.left) (begins 33 rn.left) rn.value list.value))
      (after_mark 94 list.left)

-- `rd, rm, [rn]`
unfoldable pub swap_form : Condition → Bool → List Token → Result ArmStatement AsmKind
swap_form cond byte tokens = do
  rd ← register_at tokens
  rm ← next_register_at rd.left
  comma ← mark_at 44 rm.left
  bracket ← mark_at 91 comma.left
  rn ← register_at bracket.left
  closing ← mark_at 93 rn.left
  whole (Some (operation.Swap cond byte rn.value rd.value rm.value)) closing.left

-- `rd, cpsr`
unfoldable pub read_status_form : Condition → List Token → Result ArmStatement AsmKind
read_status_form cond tokens = do
  rd ← register_at tokens
  comma ← mark_at 44 rd.left
  saved ← saved_at comma.left
  whole (Some (operation.ReadStatus cond saved.value rd.value)) saved.left

-- `cpsr_F, rm` and `cpsr_F, #N`
unfoldable pub write_status_form : Condition → List Token → Result ArmStatement AsmKind
write_status_form cond tokens = do
  status ← status_at tokens
  comma ← mark_at 44 status.left
  source ← source_at comma.left
  whole (option_map (operation.WriteStatus cond status.value.saved status.value.fields) source.value) source.left

-- `#N`
unfoldable pub interrupt_form : Condition → List Token → Result ArmStatement AsmKind
interrupt_form cond tokens = do
  comment ← immediate_at tokens
  whole (Some (operation.Interrupt cond comment.value)) comment.left

-- `TARGET`
unfoldable pub branch_form : Condition → Bool → List Token → Result ArmStatement AsmKind
branch_form cond link tokens = do
  target ← target_at tokens
  _ ← end_at target.left
  Ok (Branch cond link target.value)

-- `rm`
unfoldable pub exchange_form : Condition → List Token → Result ArmStatement AsmKind
exchange_form cond tokens = do
  rm ← register_at tokens
  whole (Some (operation.Exchange cond rm.value)) rm.left

-- the form of each name
unfoldable pub form_of : Condition → Mnemonic → List Token → Result ArmStatement AsmKind
form_of cond (mnemonic.Compute op set) tokens = compute_form cond op set tokens
form_of cond (mnemonic.Compare op) tokens = compare_form cond op tokens
form_of cond (mnemonic.Multiply false set) tokens = multiply_form cond set tokens
form_of cond (mnemonic.Multiply true set) tokens = accumulate_form cond set tokens
form_of cond (mnemonic.MultiplyLong signed accumulate set) tokens = long_form cond signed accumulate set tokens
form_of cond (mnemonic.Transfer load byte user) tokens = transfer_form cond load byte user tokens
form_of cond (mnemonic.Half half) tokens = half_form cond half tokens
form_of cond (mnemonic.Block load pre up) tokens = block_form cond load pre up tokens
form_of cond (mnemonic.Swap byte) tokens = swap_form cond byte tokens
form_of cond mnemonic.ReadStatus tokens = read_status_form cond tokens
form_of cond mnemonic.WriteStatus tokens = write_status_form cond tokens
form_of cond mnemonic.Interrupt tokens = interrupt_form cond tokens
form_of cond (mnemonic.Branch link) tokens = branch_form cond link tokens
form_of cond mnemonic.Exchange tokens = exchange_form cond tokens

abbrev pub named_form : Option ArmName → List Token → Result ArmStatement AsmKind
named_form (Some name) tokens = form_of name.cond name.mnemonic tokens
named_form None tokens = Err kind.Unknown

-- what a statement's name says with the tokens after it; a name that no statement has is Unknown
unfoldable pub arm_statement : List ℕ → List Token → Result ArmStatement AsmKind
arm_statement word tokens = named_form (arm_name word) tokens
