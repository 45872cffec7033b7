-- The readers of tokens: each takes what it reads from the front, or refuses the line.
use Rattle.std.specs.Prelude.{ℕ, Bool, true, false, ◌==◌, List, [], ◌∷◌, Option, Some, None, Result, Ok, Err, if◌then◌else◌}
use Rattle.gba_text.specs.Steps.{◌>>=◌, Taken, taken, or_refused, no_more}
use Rattle.gba_asm_words.specs.declared.kinds.AsmKind.{AsmKind}
use Rattle.gba_asm_words.specs.declared.kinds.AsmKind.TheVariants.{Operand}
use Rattle.gba_asm_words.specs.declared.readers.Target as written
use Rattle.gba_asm_words.specs.declared.readers.Target.TheVariants as target
use Rattle.gba_asm_words.specs.Names.{register_of, is_label}
use Rattle.gba_asm_words.specs.Numbers.{number_of}
use Rattle.gba_asm_words.specs.Tokens.{Token, Word, Mark}

abbrev pub first_token : List Token → Option Token
first_token [] = None
first_token (token ∷ _) = Some token

abbrev pub other_tokens : List Token → List Token
other_tokens [] = []
other_tokens (_ ∷ tokens) = tokens

-- a word, whatever it is
abbrev pub word_at : List Token → Result (Taken (List Token) (List ℕ)) AsmKind
word_at [] = Err Operand
word_at (Word bytes ∷ tokens) = Ok (taken bytes tokens)
word_at (Mark mark ∷ tokens) = Err Operand

-- whether this mark stands first
abbrev pub begins : ℕ → List Token → Bool
begins mark [] = false
begins mark (Word bytes ∷ tokens) = false
begins mark (Mark first ∷ tokens) = first == mark

-- the tokens after a mark that may stand first
abbrev pub after_mark : ℕ → List Token → List Token
after_mark mark tokens = if begins mark tokens then other_tokens tokens else tokens

-- this mark
abbrev pub mark_at : ℕ → List Token → Result (Taken (List Token) Bool) AsmKind
mark_at mark tokens = if begins mark tokens then Ok (taken true (other_tokens tokens)) else Err Operand

-- nothing follows
abbrev pub end_at : List Token → Result Bool AsmKind
end_at tokens = no_more Operand tokens

-- what a word spells
abbrev pub or_operand : {T : Type 0} → List Token → Option T → Result (Taken (List Token) T) AsmKind
or_operand tokens spelled = or_refused Operand tokens spelled

abbrev pub register_in : Taken (List Token) (List ℕ) → Result (Taken (List Token) ℕ) AsmKind
register_in t = or_operand t.left (register_of t.value)

-- a register
unfoldable pub register_at : List Token → Result (Taken (List Token) ℕ) AsmKind
register_at tokens = word_at tokens >>= register_in

-- a comma (44) and a register
unfoldable pub next_register_at : List Token → Result (Taken (List Token) ℕ) AsmKind
next_register_at tokens = mark_at 44 tokens >>= (λ comma. register_at comma.left)

abbrev pub number_in : Taken (List Token) (List ℕ) → Result (Taken (List Token) ℕ) AsmKind
number_in t = or_operand t.left (number_of t.value)

-- a number
unfoldable pub number_at : List Token → Result (Taken (List Token) ℕ) AsmKind
number_at tokens = word_at tokens >>= number_in

-- `#` (35) and a number
unfoldable pub immediate_at : List Token → Result (Taken (List Token) ℕ) AsmKind
immediate_at tokens = mark_at 35 tokens >>= (λ hash. number_at hash.left)

-- a comma, `#` and a number
unfoldable pub next_immediate_at : List Token → Result (Taken (List Token) ℕ) AsmKind
next_immediate_at tokens = mark_at 44 tokens >>= (λ comma. immediate_at comma.left)

-- where a statement leads: to a label, or to an address
pub data Target : Type 0 where
  Label : List ℕ → Target
  Address : ℕ → Target

abbrev pub target_value : written.Target → Target
target_value (target.Label name) = Label name.now
target_value (target.Address address) = Address address

abbrev pub label_target : List ℕ → Option Target
label_target word = if is_label word then Some (Label word) else None

abbrev pub number_or_label : Option ℕ → List ℕ → Option Target
number_or_label (Some address) word = Some (Address address)
number_or_label None word = label_target word

-- what a word leads to: it spells a number or a label
unfoldable pub target_of : List ℕ → Option Target
target_of word = number_or_label (number_of word) word

abbrev pub target_in : Taken (List Token) (List ℕ) → Result (Taken (List Token) Target) AsmKind
target_in t = or_operand t.left (target_of t.value)

-- a target
unfoldable pub target_at : List Token → Result (Taken (List Token) Target) AsmKind
target_at tokens = word_at tokens >>= target_in
