use Rattle.std.specs.Prelude.{List, ℕ, codes}
use Rattle.gba_text.specs.declared.kinds.LineError.{LineError}
use Rattle.gba_text.specs.declared.kinds.TextKind.{TextKind}
use Rattle.gba_text.specs.declared.kinds.TextKind.TheVariants as text
use Rattle.gba_joblog.specs.declared.kinds.JobKind.{JobKind}
use Rattle.gba_joblog.specs.declared.kinds.JobKind.TheVariants.{Byte, Word, Number, Name, Digest, Order, Repeated, Missing, Extra, Long, Clash}

-- the name of a kind in reports
abbrev pub kind_name : JobKind → List ℕ
kind_name Byte = codes "Byte"
kind_name Word = codes "Word"
kind_name Number = codes "Number"
kind_name Name = codes "Name"
kind_name Digest = codes "Digest"
kind_name Order = codes "Order"
kind_name Repeated = codes "Repeated"
kind_name Missing = codes "Missing"
kind_name Extra = codes "Extra"
kind_name Long = codes "Long"
kind_name Clash = codes "Clash"

-- the first refused line of a job or a key file, and why it is refused
abbrev pub JobError : Type 0
JobError = LineError JobKind

-- what is wrong with a line's bytes or its words, as a kind of the job language
abbrev pub kind_of_text : TextKind → JobKind
kind_of_text text.Byte = Byte
kind_of_text text.Missing = Missing
kind_of_text text.Number = Number
kind_of_text text.Long = Long
