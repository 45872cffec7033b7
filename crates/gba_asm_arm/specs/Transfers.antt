-- The addresses of loads and stores. Where a number has no encoding, an offset is None.
use Rattle.std.specs.Prelude.{ℕ, Bool, true, false, not, ◌||◌, List, Option, Some, option_map, Result, Ok, if◌then◌else◌}
use Rattle.gba_word.specs.declared.kinds.Shift.TheVariants.{Lsl, Ror}
use Rattle.gba_arm_table.specs.declared.operation.ArmOp.{ArmOp}
use Rattle.gba_arm_table.specs.declared.operation.ArmOp.TheVariants as op
use Rattle.gba_arm_table.specs.declared.operation.Condition.{Condition}
use Rattle.gba_arm_table.specs.declared.operation.HalfKind.{HalfKind}
use Rattle.gba_arm_table.specs.declared.operation.HalfOffset.{HalfOffset}
use Rattle.gba_arm_table.specs.declared.operation.HalfOffset.TheVariants as half
use Rattle.gba_arm_table.specs.declared.operation.TransferOffset.{TransferOffset}
use Rattle.gba_arm_table.specs.declared.operation.TransferOffset.TheVariants.{Number, Shifted}
use Rattle.gba_text.specs.Steps.{◌>>=◌, Taken, taken}
use Rattle.gba_asm_words.specs.declared.kinds.AsmKind.{AsmKind}
use Rattle.gba_asm_words.specs.Readers.{begins, other_tokens, after_mark, mark_at, register_at, number_at, immediate_at}
use Rattle.gba_asm_words.specs.Tokens.{Token}
use Rattle.gba_asm_arm.specs.declared.operands.ShiftName.{ShiftName}
use Rattle.gba_asm_arm.specs.declared.operands.ShiftName.TheVariants.{Extended, By}
use Rattle.gba_asm_arm.specs.declared.transfers.Address.{Address}
use Rattle.gba_asm_arm.specs.declared.transfers.Distance.{Distance}
use Rattle.gba_asm_arm.specs.Operands.{amount_of, shift_name_at}

-- a register shifted by `#` and a number
unfoldable pub shifted_offset : ℕ → ShiftName → List Token → Result (Taken (List Token) (Option TransferOffset)) AsmKind
shifted_offset rm Extended tokens = Ok (taken (Some (Shifted rm Ror 0)) tokens)
shifted_offset rm (By kind) tokens =
    immediate_at tokens >>= (λ n. Ok (taken (option_map (Shifted rm kind) (amount_of kind n.value)) n.left))

-- what follows a register: a comma (44) and a shift where shifts may stand, or nothing
unfoldable pub register_offset : Bool → ℕ → List Token → Result (Taken (List Token) (Option TransferOffset)) AsmKind
register_offset shifts rm tokens =
    if not shifts then Ok (taken (Some (Shifted rm Lsl 0)) tokens)
    else if begins 44 tokens
    then shift_name_at (other_tokens tokens) >>= (λ name. shifted_offset rm name.value name.left)
    else Ok (taken (Some (Shifted rm Lsl 0)) tokens)

abbrev pub distance : Bool → Option TransferOffset → Distance
distance up offset = record { up = up; offset = offset }

-- a number after `-` (45), or without it
unfoldable pub number_distance : List Token → Result (Taken (List Token) Distance) AsmKind
number_distance tokens =
    number_at (after_mark 45 tokens)
    >>= (λ n. Ok (taken (distance (not (begins 45 tokens)) (Some (Number n.value))) n.left))

-- a register after `-`, or without it
unfoldable pub register_distance : Bool → List Token → Result (Taken (List Token) Distance) AsmKind
register_distance shifts tokens = do
  rm ← register_at (after_mark 45 tokens)
  offset ← register_offset shifts rm.value rm.left
  Ok (taken (distance (not (begins 45 tokens)) offset.value) offset.left)

-- `#` (35) and a number, or a register
unfoldable pub distance_at : Bool → List Token → Result (Taken (List Token) Distance) AsmKind
distance_at shifts tokens =
    if begins 35 tokens then number_distance (other_tokens tokens) else register_distance shifts tokens

abbrev pub no_distance : Distance
no_distance = distance true (Some (Number 0))

abbrev pub address : ℕ → Bool → Bool → Distance → Address
address rn pre write d = record { rn = rn; pre = pre; write = write; up = d.up; offset = d.offset }

-- the distance goes on before the access, and `!` (33) writes it back
abbrev pub before_access : ℕ → Distance → List Token → Taken (List Token) Address
before_access rn d tokens = taken (address rn true (begins 33 tokens) d) (after_mark 33 tokens)

-- the distance goes on after the access
unfoldable pub after_access : Bool → ℕ → List Token → Result (Taken (List Token) Address) AsmKind
after_access shifts rn tokens =
    distance_at shifts tokens >>= (λ d. Ok (taken (address rn false false d.value) d.left))

-- what follows `[rn]`
unfoldable pub past_bracket : Bool → ℕ → List Token → Result (Taken (List Token) Address) AsmKind
past_bracket shifts rn tokens =
    if begins 44 tokens then after_access shifts rn (other_tokens tokens)
    else Ok (before_access rn no_distance tokens)

-- what follows `[rn` where no bracket does: a comma, the distance and `]` (93)
unfoldable pub indexed : Bool → ℕ → List Token → Result (Taken (List Token) Address) AsmKind
indexed shifts rn tokens = do
  comma ← mark_at 44 tokens
  d ← distance_at shifts comma.left
  bracket ← mark_at 93 d.left
  Ok (before_access rn d.value bracket.left)

unfoldable pub in_brackets : Bool → ℕ → List Token → Result (Taken (List Token) Address) AsmKind
in_brackets shifts rn tokens =
    if begins 93 tokens then past_bracket shifts rn (other_tokens tokens) else indexed shifts rn tokens

-- an address, from its `[` (91) on
unfoldable pub address_at : Bool → List Token → Result (Taken (List Token) Address) AsmKind
address_at shifts tokens = do
  bracket ← mark_at 91 tokens
  rn ← register_at bracket.left
  in_brackets shifts rn.value rn.left

-- LDR and STR; the forms with T write back after the access with the bit W
abbrev pub transfer : Condition → Bool → Bool → Bool → ℕ → Address → Option ArmOp
transfer cond load byte user rd a =
    option_map (op.Transfer cond load byte a.pre a.up (a.write || user) a.rn rd) a.offset

abbrev pub half_offset : TransferOffset → HalfOffset
half_offset (Number value) = half.Number value
half_offset (Shifted rm kind amount) = half.Plain rm

-- LDRH and its like
abbrev pub half_transfer : Condition → HalfKind → ℕ → Address → Option ArmOp
half_transfer cond kind rd a =
    option_map (λ offset. op.Half cond kind a.pre a.up a.write a.rn rd (half_offset offset)) a.offset
