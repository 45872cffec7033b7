use Rattle.std.specs.Prelude.{List, ℕ, codes}
use Rattle.gba_text.specs.declared.kinds.LineError.{LineError}
use Rattle.gba_asm_words.specs.declared.kinds.AsmKind.{AsmKind}
use Rattle.gba_asm_words.specs.declared.kinds.AsmKind.TheVariants.{Size, Unknown, Operand, Repeated, Label, Range}

-- the name of a kind in reports
abbrev pub kind_name : AsmKind → List ℕ
kind_name Size = codes "Size"
kind_name Unknown = codes "Unknown"
kind_name Operand = codes "Operand"
kind_name Repeated = codes "Repeated"
kind_name Label = codes "Label"
kind_name Range = codes "Range"

-- the first refused line of a source, and why it is refused
abbrev pub AsmError : Type 0
AsmError = LineError AsmKind
