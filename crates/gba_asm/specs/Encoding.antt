-- The bytes of statements.
use Rattle.std.specs.Prelude.{ℕ, ◌%◌, ◌^◌, nat_lt, Bool, ◌==◌, List, [], ◌∷◌, ◌++◌, replicate, Option, Some, None, Result, Ok, Err, if◌then◌else◌}
use Rattle.std.specs.Int.{w16, w32, to_le_bytes}
use Rattle.gba_arm_table.specs.declared.encoding.EncodeError.{EncodeError}
use Rattle.gba_arm_table.specs.Encoding.{encoding as arm_encoding}
use Rattle.gba_thumb_table.specs.Encoding.{encoding as thumb_encoding}
use Rattle.gba_text.specs.Steps.{◌>>=◌, holds}
use Rattle.gba_asm_words.specs.declared.kinds.AsmKind.{AsmKind}
use Rattle.gba_asm_words.specs.declared.kinds.AsmKind.TheVariants as kind
use Rattle.gba_asm_words.specs.Numbers.{number_of}
use Rattle.gba_asm_words.specs.Readers.{Target, Label, Address, target_of}
use Rattle.gba_asm_words.specs.Tokens.{Token, Word, Mark}
use Rattle.gba_asm_arm.specs.Placing as arm_placing
use Rattle.gba_asm_arm.specs.Statement.{ArmStatement}
use Rattle.gba_asm_thumb.specs.declared.placing.ThumbOps.{ThumbOps}
use Rattle.gba_asm_thumb.specs.declared.placing.ThumbOps.TheVariants.{One, Two}
use Rattle.gba_asm_thumb.specs.Placing as thumb_placing
use Rattle.gba_asm_thumb.specs.Statement.{ThumbStatement}
use Rattle.gba_asm.specs.declared.directives.Width.{Width}
use Rattle.gba_asm.specs.declared.directives.Width.TheVariants as width
use Rattle.gba_asm.specs.declared.labels.LabelPlace.{LabelPlace}
use Rattle.gba_asm.specs.Directives.{width_size}
use Rattle.gba_asm.specs.Places.{Labels}
use Rattle.gba_asm.specs.Statements.{Statement, Nothing, Mode, Data, Space, Align, Arm, Thumb, padding}

abbrev pub known : Option LabelPlace → Result ℕ AsmKind
known (Some place) = Ok place.address
known None = Err kind.Label

-- the address of a target
abbrev pub address_of : Labels → Target → Result ℕ AsmKind
address_of labels (Label name) = known (labels name)
address_of labels (Address address) = Ok address

-- the address of a statement's target, 0 where it has none
abbrev pub address_in : Labels → Option Target → Result ℕ AsmKind
address_in labels (Some target) = address_of labels target
address_in labels None = Ok 0

-- no encoding is out of range, and so is what an encoder refuses
abbrev pub in_range : {T : Type 0} → Option T → Result T AsmKind
in_range (Some x) = Ok x
in_range None = Err kind.Range

abbrev pub encoded : Result ℕ EncodeError → Result ℕ AsmKind
encoded (Ok word) = Ok word
encoded (Err e) = Err kind.Range

-- an address is a multiple of so many bytes
abbrev pub aligned : ℕ → ℕ → Result Bool AsmKind
aligned unit address = holds (address % unit == 0) kind.Range

-- the word of an ARM statement at this address
unfoldable pub arm_word : Labels → ℕ → ArmStatement → Result ℕ AsmKind
arm_word labels address s = do
  target ← address_in labels (arm_placing.target_of s)
  _ ← aligned 4 address
  op ← in_range (arm_placing.operation_at address target s)
  encoded (arm_encoding op)

-- the bytes of one halfword or two
abbrev pub thumb_bytes : ThumbOps → Result (List ℕ) AsmKind
thumb_bytes (One op) = encoded (thumb_encoding op) >>= (λ half. Ok (to_le_bytes w16 half))
thumb_bytes (Two first second) =
    encoded (thumb_encoding first)
    >>= (λ a. encoded (thumb_encoding second) >>= (λ b. Ok (to_le_bytes w16 a ++ to_le_bytes w16 b)))

-- the bytes of a Thumb statement at this address
unfoldable pub thumb_code : Labels → ℕ → ThumbStatement → Result (List ℕ) AsmKind
thumb_code labels address s = do
  target ← address_in labels (thumb_placing.target_of s)
  _ ← aligned 2 address
  ops ← in_range (thumb_placing.operations_at address target s)
  thumb_bytes ops

abbrev pub or_operand : {T : Type 0} → Option T → Result T AsmKind
or_operand (Some x) = Ok x
or_operand None = Err kind.Operand

-- a number below a bound
abbrev pub below : ℕ → ℕ → Result ℕ AsmKind
below bound number = if nat_lt number bound then Ok number else Err kind.Range

-- the bytes of one item of data
unfoldable pub item_bytes : Labels → Width → List ℕ → Result (List ℕ) AsmKind
item_bytes labels width.Word word = or_operand (target_of word) >>= address_of labels >>= (λ n. Ok (to_le_bytes w32 n))
item_bytes labels width.Half word = or_operand (number_of word) >>= below (2 ^ 16) >>= (λ n. Ok (to_le_bytes w16 n))
item_bytes labels width.Byte word = or_operand (number_of word) >>= below (2 ^ 8) >>= (λ n. Ok (n ∷ []))

-- the bytes of items, in their order
unfoldable pub items_bytes : Labels → Width → List Token → Result (List ℕ) AsmKind
items_bytes labels width [] = Ok []
items_bytes labels width (Mark mark ∷ tokens) = items_bytes labels width tokens
items_bytes labels width (Word word ∷ tokens) =
    item_bytes labels width word >>= (λ bytes. items_bytes labels width tokens >>= (λ more. Ok (bytes ++ more)))

-- the bytes of data at this address
abbrev pub data_bytes : Labels → ℕ → Width → List Token → Result (List ℕ) AsmKind
data_bytes labels address width items =
    items_bytes labels width items >>= (λ bytes. aligned (width_size width) address >>= (λ _. Ok bytes))

-- the bytes of a statement at this address
unfoldable pub statement_bytes : Labels → ℕ → Statement → Result (List ℕ) AsmKind
statement_bytes labels address Nothing = Ok []
statement_bytes labels address (Mode thumb) = Ok []
statement_bytes labels address (Data width items) = data_bytes labels address width items
statement_bytes labels address (Space count) = Ok (replicate count 0)
statement_bytes labels address Align = Ok (replicate (padding address) 0)
statement_bytes labels address (Arm s) = arm_word labels address s >>= (λ word. Ok (to_le_bytes w32 word))
statement_bytes labels address (Thumb s) = thumb_code labels address s
