-- How the program's answers agree with the definitions.
use Rattle.std.specs.Prelude.{◌≡◌, ℕ, List, ◌++◌, Option, Some, None, Result, Ok, Err}
use Rattle.std.specs.BTreeMap.{BTreeMap, get_by}
use Rattle.std.specs.Cmp.Lexicographic.{slice_cmp}
use Rattle.std.specs.Ordering.{nat_cmp}
use denote.Ref.{Bor}
use Rattle.gba_text.specs.Languages.{error_at}
use Rattle.gba_asm_words.specs.Kinds.{AsmError}
use Rattle.gba_asm_words.specs.declared.kinds.AsmKind.{AsmKind}
use Rattle.gba_asm.specs.declared.kinds.AsmRefused.{AsmRefused}
use Rattle.gba_asm.specs.declared.kinds.AsmRefused.TheVariants as refused
use Rattle.gba_asm.specs.declared.kinds.LineRefused.{LineRefused}
use Rattle.gba_asm.specs.declared.kinds.LineRefused.TheVariants as line
use Rattle.gba_asm.specs.declared.labels.LabelPlace.{LabelPlace}
use Rattle.gba_asm.specs.declared.statements.SizedStatement.{SizedStatement}
use Rattle.gba_asm.specs.Places.{Labels}
use Rattle.gba_asm.specs.Statements.{Statement, statement_value, size_of}

-- a statement with its size at this address, or its refusal
abbrev pub SaysSized : ℕ → Result SizedStatement AsmKind → Result Statement AsmKind → Type 0
SaysSized address (Ok s) defined =
    (defined ≡ Ok (statement_value s.statement)) × (s.size ≡ size_of address (statement_value s.statement))
SaysSized address (Err kind) defined = defined ≡ Err kind

-- these bytes, and then the defined ones
abbrev pub onto : {E : Type 0} → List ℕ → Result (List ℕ) E → Result (List ℕ) E
onto bytes (Ok more) = Ok (bytes ++ more)
onto bytes (Err e) = Err e

-- the defined bytes are added at the end, or the refusal is the defined one; want of memory is free
abbrev pub Adds : {T : Type 0} → Result T LineRefused → List ℕ → List ℕ → Result (List ℕ) AsmKind → Type 0
Adds (Ok _) old new defined = onto old defined ≡ Ok new
Adds (Err (line.Kind kind)) old new defined = defined ≡ Err kind
Adds (Err line.NoMemory) old new defined = Unit {0}

-- the defined bytes of a line are added at the end, or the refusal has the defined kind; want of memory is free
abbrev pub AddsLine : Result (Unit {0}) AsmRefused → List ℕ → List ℕ → Result (List ℕ) AsmKind → Type 0
AddsLine (Ok _) old new defined = onto old defined ≡ Ok new
AddsLine (Err (refused.Source e)) old new defined = defined ≡ Err e.kind
AddsLine (Err refused.NoMemory) old new defined = Unit {0}

-- the labels that a map from names to places holds
abbrev pub labels_in : BTreeMap (Bor (List ℕ)) LabelPlace → Labels
labels_in places name = get_by (λ k. slice_cmp nat_cmp name k.now) places

-- the line that is refused, if it isn't memory that is wanting
abbrev pub line_error : AsmRefused → Option AsmError
line_error (refused.Source e) = Some e
line_error refused.NoMemory = None

-- the refusal of the line of this number
abbrev pub refused_at : ℕ → LineRefused → AsmRefused
refused_at number (line.Kind kind) = refused.Source (error_at number kind)
refused_at number line.NoMemory = refused.NoMemory
