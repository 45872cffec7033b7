-- Lists of registers in braces: `{r0, r2-r4, lr}`. A list is a set of registers: bit n of it is register n.
use Rattle.std.specs.Prelude.{ℕ, ◌+◌, ◌-◌, ◌^◌, nat_le, Bool, true, false, ◌==◌, List, [], ◌∷◌, Option, Some, None, Result, Ok, Err, bit_or, if◌then◌else◌}
use Rattle.gba_text.specs.Steps.{◌>>=◌, Taken, taken}
use Rattle.gba_asm_words.specs.declared.kinds.AsmKind.{AsmKind}
use Rattle.gba_asm_words.specs.declared.kinds.AsmKind.TheVariants.{Operand}
use Rattle.gba_asm_words.specs.declared.lists.ListPlace.{ListPlace}
use Rattle.gba_asm_words.specs.declared.lists.ListPlace.TheVariants.{Opened, Parted, AfterRegister, InRange, AfterRange, Closed}
use Rattle.gba_asm_words.specs.declared.lists.ListState.{ListState}
use Rattle.gba_asm_words.specs.Names.{register_of}
use Rattle.gba_asm_words.specs.Readers.{mark_at}
use Rattle.gba_asm_words.specs.Tokens.{Token, Word, Mark}

abbrev pub state : ℕ → ListPlace → ListState
state list place = record { list = list; place = place }

-- a register joins the list
abbrev pub with_register : ℕ → Option ℕ → Result ListState AsmKind
with_register list (Some register) = Ok (state (bit_or list (2 ^ register)) (AfterRegister register))
with_register list None = Err Operand

-- the registers from the first to the last join the list, which may not fall
abbrev pub with_range : ℕ → ℕ → Option ℕ → Result ListState AsmKind
with_range list first (Some last) =
    if nat_le first last then Ok (state (bit_or list (2 ^ (last + 1) - 2 ^ first)) AfterRange) else Err Operand
with_range list first None = Err Operand

abbrev pub by_word : ListState → List ℕ → ListPlace → Result ListState AsmKind
by_word s word Opened = with_register s.list (register_of word)
by_word s word Parted = with_register s.list (register_of word)
by_word s word (InRange first) = with_range s.list first (register_of word)
by_word s word (AfterRegister register) = Err Operand
by_word s word AfterRange = Err Operand
by_word s word Closed = Err Operand

-- `}` (125) closes the list
abbrev pub closes : ListState → ℕ → Result ListState AsmKind
closes s mark = if mark == 125 then Ok (state s.list Closed) else Err Operand

-- `,` (44) parts the list's entries
abbrev pub parts : ListState → ℕ → Result ListState AsmKind
parts s mark = if mark == 44 then Ok (state s.list Parted) else closes s mark

abbrev pub by_mark : ListState → ℕ → ListPlace → Result ListState AsmKind
by_mark s mark Opened = closes s mark
by_mark s mark (AfterRegister register) =
    if mark == 45 then Ok (state s.list (InRange register)) else parts s mark
by_mark s mark AfterRange = parts s mark
by_mark s mark Parted = Err Operand
by_mark s mark (InRange first) = Err Operand
by_mark s mark Closed = Err Operand

-- one token more of a list that isn't closed yet
unfoldable pub list_step : ListState → Token → Result ListState AsmKind
list_step s (Word word) = by_word s word s.place
list_step s (Mark mark) = by_mark s mark s.place

abbrev pub is_closed : ListPlace → Bool
is_closed Closed = true
is_closed Opened = false
is_closed Parted = false
is_closed (AfterRegister register) = false
is_closed (InRange first) = false
is_closed AfterRange = false

-- the rest of a list
unfoldable pub list_from : ListState → List Token → Result (Taken (List Token) ℕ) AsmKind
list_from s [] = if is_closed s.place then Ok (taken s.list []) else Err Operand
list_from s (token ∷ tokens) =
    if is_closed s.place then Ok (taken s.list (token ∷ tokens))
    else list_step s token >>= (λ next. list_from next tokens)

-- a list, from its `{` (123) to its `}`
unfoldable pub list_at : List Token → Result (Taken (List Token) ℕ) AsmKind
list_at tokens = mark_at 123 tokens >>= (λ brace. list_from (state 0 Opened) brace.left)
