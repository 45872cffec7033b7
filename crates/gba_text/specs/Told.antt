use Rattle.std.specs.Prelude.{ℕ, List, ◌++◌, codes, decimal, Option, Some}
use Rattle.std.specs.Fmt.{◌++?◌}
use Rattle.gba_text.specs.declared.kinds.LineError.{LineError}
use Rattle.gba_text.specs.declared.kinds.TextError.{TextError}
use Rattle.gba_text.specs.declared.kinds.TextKind.{TextKind}
use Rattle.gba_text.specs.declared.kinds.TextKind.TheVariants.{Byte, Missing, Number, Long}

abbrev pub cause_text : TextKind → List ℕ
cause_text Byte = codes ": a byte that may not stand there"
cause_text Missing = codes ": a word is missing"
cause_text Number = codes ": no number in the range"
cause_text Long = codes ": more than 400 bytes"

-- how a refusal is printed
abbrev pub error_text : TextError → List ℕ
error_text e = codes "line " ++ decimal e.line ++ cause_text e.kind

-- how the refusal of a line is told: the line's number, and the kind as it is printed
abbrev pub refusal_text : {K : Type 0} → (K → Option (List ℕ)) → LineError K → Option (List ℕ)
refusal_text kind_text e = Some (codes "line " ++ decimal e.line ++ codes " ") ++? kind_text e.kind
