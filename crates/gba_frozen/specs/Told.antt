use Rattle.std.specs.Prelude.{ℕ, List, codes}
use Rattle.gba_frozen.specs.declared.kinds.ThawKind.{ThawKind}
use Rattle.gba_frozen.specs.declared.kinds.ThawKind.TheVariants as kind

-- how a kind is printed
abbrev pub kind_text : ThawKind → List ℕ
kind_text kind.Spelling = codes "Spelling"
kind_text kind.Number = codes "Number"
kind_text kind.Job = codes "Job"
kind_text kind.Unsound = codes "Unsound"
