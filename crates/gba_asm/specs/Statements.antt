-- What a line says: a label, and a statement.
use Rattle.std.specs.Prelude.{ℕ, ◌-◌, ◌*◌, ◌%◌, Bool, true, false, ◌&&◌, List, [], ◌∷◌, Option, Some, None, Result, Ok, Err, if◌then◌else◌}
use Rattle.gba_text.specs.Steps.{◌>>=◌}
use Rattle.gba_asm_words.specs.declared.kinds.AsmKind.{AsmKind}
use Rattle.gba_asm_words.specs.declared.kinds.AsmKind.TheVariants as kind
use Rattle.gba_asm_words.specs.Names.{is_label}
use Rattle.gba_asm_words.specs.Readers.{begins, other_tokens, end_at, number_at}
use Rattle.gba_asm_words.specs.Tokens.{Token, Word, Mark, tokens, code_of, fault_of}
use Rattle.gba_asm_arm.specs.Forms.{arm_statement}
use Rattle.gba_asm_arm.specs.Statement as arm
use Rattle.gba_asm_thumb.specs.Forms.{thumb_statement}
use Rattle.gba_asm_thumb.specs.Placing.{size_of as thumb_size}
use Rattle.gba_asm_thumb.specs.Statement as thumb
use Rattle.gba_asm.specs.declared.directives.Directive.{Directive}
use Rattle.gba_asm.specs.declared.directives.Directive.TheVariants as directive
use Rattle.gba_asm.specs.declared.directives.Width.{Width}
use Rattle.gba_asm.specs.declared.statements.Statement as written
use Rattle.gba_asm.specs.declared.statements.Statement.TheVariants as statement
use Rattle.gba_asm.specs.Directives.{directive_of, are_items, count_words, width_size}

-- what a line can say after its label; the items of data stand as their tokens
pub data Statement : Type 0 where
  Nothing : Statement
  Mode : Bool → Statement
  Data : Width → List Token → Statement
  Space : ℕ → Statement
  Align : Statement
  Arm : arm.ArmStatement → Statement
  Thumb : thumb.ThumbStatement → Statement

-- what a statement of the program stands for
abbrev pub statement_value : written.Statement → Statement
statement_value statement.Nothing = Nothing
statement_value (statement.Mode thumb) = Mode thumb
statement_value (statement.Data width items) = Data width (tokens items.now)
statement_value (statement.Space count) = Space count
statement_value statement.Align = Align
statement_value (statement.Arm s) = Arm (arm.statement_value s)
statement_value (statement.Thumb s) = Thumb (thumb.statement_value s)

-- a label, if a line begins with one, and the tokens after it
pub record Labelled : Type 0 where
  pub label : Option (List ℕ)
  pub rest : List Token

abbrev pub unlabelled : List Token → Labelled
unlabelled tokens = record { label = None; rest = tokens }

-- a word that may be a label, and `:` (58)
abbrev pub labelled : List Token → Labelled
labelled [] = unlabelled []
labelled (Mark mark ∷ tokens) = unlabelled (Mark mark ∷ tokens)
labelled (Word word ∷ tokens) =
    if is_label word && begins 58 tokens then record { label = Some word; rest = other_tokens tokens }
    else unlabelled (Word word ∷ tokens)

unfoldable pub split_label : List Token → Labelled
split_label tokens = labelled tokens

-- what a directive says with its operands
unfoldable pub directive_form : Directive → List Token → Result Statement AsmKind
directive_form (directive.Mode thumb) tokens = end_at tokens >>= (λ _. Ok (Mode thumb))
directive_form (directive.Data width) tokens =
    if are_items width true tokens then Ok (Data width tokens) else Err kind.Operand
directive_form directive.Space tokens = number_at tokens >>= (λ n. end_at n.left >>= (λ _. Ok (Space n.value)))
directive_form directive.Align tokens = end_at tokens >>= (λ _. Ok Align)

abbrev pub machine_form : Bool → List ℕ → List Token → Result Statement AsmKind
machine_form true word tokens = thumb_statement word tokens >>= (λ s. Ok (Thumb s))
machine_form false word tokens = arm_statement word tokens >>= (λ s. Ok (Arm s))

abbrev pub directed : Bool → List ℕ → Option Directive → List Token → Result Statement AsmKind
directed thumb word (Some d) tokens = directive_form d tokens
directed thumb word None tokens = machine_form thumb word tokens

-- what the tokens after a label say, in ARM or in Thumb state
unfoldable pub statement_of : Bool → List Token → Result Statement AsmKind
statement_of thumb [] = Ok Nothing
statement_of thumb (Word word ∷ tokens) = directed thumb word (directive_of word) tokens
statement_of thumb (Mark mark ∷ tokens) = Err kind.Unknown

abbrev pub unless_faulty : {T : Type 0} → Option AsmKind → T → (AsmKind → T) → T
unless_faulty None x f = x
unless_faulty (Some kind) x f = f kind

-- What a line says after its label. The tests in their order: its length, its bytes, its statement's name,
-- its operands.
unfoldable pub line_says : Bool → List ℕ → Result Statement AsmKind
line_says thumb line =
    unless_faulty (fault_of line) (statement_of thumb (split_label (tokens (code_of line))).rest) (λ kind. Err kind)

-- the label of a line that has no fault in its length and its bytes, whether or not its statement is refused
unfoldable pub label_of : List ℕ → Option (List ℕ)
label_of line = unless_faulty (fault_of line) (split_label (tokens (code_of line))).label (λ kind. None)

-- the bytes up to the next multiple of 4
abbrev pub padding : ℕ → ℕ
padding address = (4 - address % 4) % 4

-- the bytes of a statement at this address
unfoldable pub size_of : ℕ → Statement → ℕ
size_of address Nothing = 0
size_of address (Mode thumb) = 0
size_of address (Data width items) = width_size width * count_words items
size_of address (Space count) = count
size_of address Align = padding address
size_of address (Arm s) = 4
size_of address (Thumb s) = thumb_size s
