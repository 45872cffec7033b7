-- How the program's answers agree with the definitions.
use Rattle.std.specs.Prelude.{◌≡◌, ℕ, List, Option, IfSome, Result, Ok, Err}
use Rattle.gba_text.specs.declared.kinds.LineError.{LineError}
use Rattle.gba_text.specs.declared.kinds.TextError.{TextError}
use Rattle.gba_text.specs.declared.kinds.TextKind.{TextKind}
use Rattle.gba_text.specs.Languages.{Language, Says}
use Rattle.gba_text.specs.Steps.{Taken, taken}

-- a call answers what is defined: the value as contracts see it, or the refusal, with the line's number
abbrev pub AgreesAt : {X T : Type 0} → (X → T) → ℕ → Result X TextError → Result T TextKind → Type 0
AgreesAt view number (Ok x) defined = defined ≡ Ok (view x)
AgreesAt view number (Err e) defined = (defined ≡ Err e.kind) × (e.line ≡ number)

-- what a step reads and the pieces left after it, or the refusal, are the defined ones
abbrev pub Takes : {X L T K : Type 0} → (X → T) → Result X K → L → Result (Taken L T) K → Type 0
Takes view (Ok x) left defined = defined ≡ Ok (taken (view x) left)
Takes view (Err kind) left defined = defined ≡ Err kind

-- an answer that leaves no pieces
abbrev pub Agrees : {X T K : Type 0} → (X → T) → Result X K → Result T K → Type 0
Agrees view (Ok x) defined = defined ≡ Ok (view x)
Agrees view (Err kind) defined = defined ≡ Err kind

-- In what follows `line_error` finds in a refusal of the program the line that is refused; it finds none where memory
-- is wanting, and of that nothing is said.

-- a line is read as it is defined, or refused with its number
abbrev pub Reads : {X S K R : Type 0} → (R → Option (LineError K)) → Result X R → ℕ → S → Result S K → Type 0
Reads line_error (Ok _) number said defined = defined ≡ Ok said
Reads line_error (Err r) number said defined =
    IfSome (line_error r) (λ e. (defined ≡ Err e.kind) × (e.line ≡ number))

-- what a file says, or its refusal, is what the function gives
abbrev pub Parses : {X A K R : Type 0} → (R → Option (LineError K)) → (X → A) → Result X R → Result A (LineError K)
    → Type 0
Parses line_error view (Ok x) defined = defined ≡ Ok (view x)
Parses line_error view (Err r) defined = IfSome (line_error r) (λ e. defined ≡ Err e)

-- the file of this language says this, or its refusal is this
abbrev pub IsSaid : {X S A K R : Type 0} → (R → Option (LineError K)) → Language S A K → (X → A) → List ℕ → Result X R
    → Type 0
IsSaid line_error language view bytes (Ok x) = Says language bytes (Ok (view x))
IsSaid line_error language view bytes (Err r) = IfSome (line_error r) (λ e. Says language bytes (Err e))
