-- The operands of ARM statements but for addresses. Where a number has no encoding, an operand is None.
use Rattle.std.specs.Prelude.{ℕ, zero, suc, ◌+◌, ◌*◌, ◌%◌, nat_le, nat_lt, Bool, true, false, ◌&&◌, ◌==◌, List, [], ◌∷◌, length, take, drop, codes, Option, Some, None, option_map, Result, Ok, if◌then◌else◌}
use Rattle.std.specs.Int.{w32, rotate_left}
use Rattle.std.specs.Str.{bytes_eq}
use Rattle.gba_word.specs.declared.kinds.Shift.{Shift}
use Rattle.gba_word.specs.declared.kinds.Shift.TheVariants.{Lsl, Lsr, Asr, Ror}
use Rattle.gba_word.specs.Weights.{weight}
use Rattle.gba_arm_table.specs.declared.operation.Operand.{Operand}
use Rattle.gba_arm_table.specs.declared.operation.Operand.TheVariants as operand
use Rattle.gba_arm_table.specs.declared.operation.Source.{Source}
use Rattle.gba_arm_table.specs.declared.operation.Source.TheVariants as source
use Rattle.gba_text.specs.Steps.{◌>>=◌, Taken, taken}
use Rattle.gba_asm_words.specs.declared.kinds.AsmKind.{AsmKind}
use Rattle.gba_asm_words.specs.Readers.{word_at, begins, other_tokens, mark_at, or_operand, register_at, number_at}
use Rattle.gba_asm_words.specs.Tokens.{Token}
use Rattle.gba_asm_arm.specs.declared.operands.ShiftName.{ShiftName}
use Rattle.gba_asm_arm.specs.declared.operands.ShiftName.TheVariants.{Extended, By}
use Rattle.gba_asm_arm.specs.declared.operands.StatusName.{StatusName}
use Rattle.gba_asm_arm.specs.declared.operands.Turned.{Turned}

-- eight bits that, rotated right by twice the turn, are a number: the number rotated left by as much
abbrev pub turned_back : ℕ → ℕ → ℕ
turned_back number turn = rotate_left w32 number (2 * turn)

-- the least turn, from this one on, that gives a number, of so many
unfoldable pub least_turn_from : ℕ → ℕ → ℕ → Option Turned
least_turn_from zero turn number = None
least_turn_from (suc more) turn number =
    if nat_lt (turned_back number turn) 256 then Some (record { value = turned_back number turn; turn = turn })
    else least_turn_from more (turn + 1) number

-- the least of the sixteen turns that gives a number
unfoldable pub least_turn : ℕ → Option Turned
least_turn number = least_turn_from 16 0 number

abbrev pub immediate_operand : Option Turned → Option Operand
immediate_operand t = option_map (λ i. operand.Immediate i.value i.turn) t

abbrev pub immediate_source : Option Turned → Option Source
immediate_source t = option_map (λ i. source.Immediate i.value i.turn) t

-- the name of a shift; `rrx` rotates by one through the carry
unfoldable pub shift_name_of : List ℕ → Option ShiftName
shift_name_of word =
    if bytes_eq word (codes "lsl") then Some (By Lsl)
    else if bytes_eq word (codes "lsr") then Some (By Lsr)
    else if bytes_eq word (codes "asr") then Some (By Asr)
    else if bytes_eq word (codes "ror") then Some (By Ror)
    else if bytes_eq word (codes "rrx") then Some Extended
    else None

abbrev pub shift_name_in : Taken (List Token) (List ℕ) → Result (Taken (List Token) ShiftName) AsmKind
shift_name_in t = or_operand t.left (shift_name_of t.value)

unfoldable pub shift_name_at : List Token → Result (Taken (List Token) ShiftName) AsmKind
shift_name_at tokens = word_at tokens >>= shift_name_in

-- 0 to 31 as they stand
abbrev pub amount_from_0 : ℕ → Option ℕ
amount_from_0 number = if nat_lt number 32 then Some number else None

-- 1 to 32, of which 32 is 0 in the word
abbrev pub amount_from_1 : ℕ → Option ℕ
amount_from_1 number = if nat_le 1 number && nat_le number 32 then Some (number % 32) else None

-- the five bits of a shift by a constant
abbrev pub amount_of : Shift → ℕ → Option ℕ
amount_of Lsl number = amount_from_0 number
amount_of Lsr number = amount_from_1 number
amount_of Asr number = amount_from_1 number
amount_of Ror number = amount_from_0 number

abbrev pub fixed : ℕ → Shift → ℕ → Operand
fixed rm kind amount = operand.Fixed rm kind amount

-- a register shifted by `#` and a number (35), or by a register
unfoldable pub shifted_by : ℕ → Shift → List Token → Result (Taken (List Token) (Option Operand)) AsmKind
shifted_by rm kind tokens =
    if begins 35 tokens
    then number_at (other_tokens tokens)
    >>= (λ n. Ok (taken (option_map (fixed rm kind) (amount_of kind n.value)) n.left))
    else register_at tokens >>= (λ rs. Ok (taken (Some (operand.ByRegister rm kind rs.value)) rs.left))

unfoldable pub shifted_as : ℕ → ShiftName → List Token → Result (Taken (List Token) (Option Operand)) AsmKind
shifted_as rm Extended tokens = Ok (taken (Some (fixed rm Ror 0)) tokens)
shifted_as rm (By kind) tokens = shifted_by rm kind tokens

-- a register, and what follows it: a comma (44) and a shift, or nothing
unfoldable pub register_operand : ℕ → List Token → Result (Taken (List Token) (Option Operand)) AsmKind
register_operand rm tokens =
    if begins 44 tokens
    then shift_name_at (other_tokens tokens) >>= (λ name. shifted_as rm name.value name.left)
    else Ok (taken (Some (fixed rm Lsl 0)) tokens)

-- the last operand of data processing
unfoldable pub second_at : List Token → Result (Taken (List Token) (Option Operand)) AsmKind
second_at tokens =
    if begins 35 tokens
    then number_at (other_tokens tokens) >>= (λ n. Ok (taken (immediate_operand (least_turn n.value)) n.left))
    else register_at tokens >>= (λ rm. register_operand rm.value rm.left)

-- a comma, and the last operand of data processing
unfoldable pub next_second_at : List Token → Result (Taken (List Token) (Option Operand)) AsmKind
next_second_at tokens = mark_at 44 tokens >>= (λ comma. second_at comma.left)

-- what MSR writes
unfoldable pub source_at : List Token → Result (Taken (List Token) (Option Source)) AsmKind
source_at tokens =
    if begins 35 tokens
    then number_at (other_tokens tokens) >>= (λ n. Ok (taken (immediate_source (least_turn n.value)) n.left))
    else register_at tokens >>= (λ rm. Ok (taken (Some (source.Plain rm.value)) rm.left))

-- whether a letter stands first, and the letters after it
abbrev pub has_letter : ℕ → List ℕ → Bool
has_letter letter [] = false
has_letter letter (first ∷ letters) = first == letter

abbrev pub past_letter : ℕ → List ℕ → List ℕ
past_letter letter [] = []
past_letter letter (first ∷ letters) = if first == letter then letters else first ∷ letters

abbrev pub ended : ℕ → List ℕ → Option ℕ
ended fields [] = if fields == 0 then None else Some fields
ended fields (_ ∷ _) = None

-- The fields that letters name: `f` (102), `s` (115), `x` (120) and `c` (99) in this order, each at most once and at
-- least one of them.
abbrev pub fields_c : ℕ → List ℕ → Option ℕ
fields_c fields letters = ended (fields + weight 1 (has_letter 99 letters)) (past_letter 99 letters)

abbrev pub fields_x : ℕ → List ℕ → Option ℕ
fields_x fields letters = fields_c (fields + weight 2 (has_letter 120 letters)) (past_letter 120 letters)

abbrev pub fields_s : ℕ → List ℕ → Option ℕ
fields_s fields letters = fields_x (fields + weight 4 (has_letter 115 letters)) (past_letter 115 letters)

unfoldable pub fields_of : List ℕ → Option ℕ
fields_of letters = fields_s (weight 8 (has_letter 102 letters)) (past_letter 102 letters)

-- whether a word names the SPSR, and not the CPSR
unfoldable pub saved_of : List ℕ → Option Bool
saved_of word =
    if bytes_eq word (codes "cpsr") then Some false
    else if bytes_eq word (codes "spsr") then Some true
    else None

abbrev pub saved_in : Taken (List Token) (List ℕ) → Result (Taken (List Token) Bool) AsmKind
saved_in t = or_operand t.left (saved_of t.value)

-- `cpsr` or `spsr`
unfoldable pub saved_at : List Token → Result (Taken (List Token) Bool) AsmKind
saved_at tokens = word_at tokens >>= saved_in

abbrev pub status_name : Bool → Option ℕ → Option StatusName
status_name saved fields = option_map (λ f. record { saved = saved; fields = f }) fields

abbrev pub status_by : Option Bool → List ℕ → Option StatusName
status_by None letters = None
status_by (Some saved) [] = None
status_by (Some saved) (b ∷ letters) = if b == 95 then status_name saved (fields_of letters) else None

-- `cpsr_` or `spsr_` (95 is `_`), and the letters of its fields
unfoldable pub status_of : List ℕ → Option StatusName
status_of word = if nat_lt (length word) 4 then None else status_by (saved_of (take 4 word)) (drop 4 word)

abbrev pub status_in : Taken (List Token) (List ℕ) → Result (Taken (List Token) StatusName) AsmKind
status_in t = or_operand t.left (status_of t.value)

-- the status register that MSR writes, with its fields
unfoldable pub status_at : List Token → Result (Taken (List Token) StatusName) AsmKind
status_at tokens = word_at tokens >>= status_in
