-- The assembly language as a relation: a source gives bytes, or has a first refused line.
use Rattle.std.specs.Prelude.{◌≡◌, ℕ, List, Result}
use Rattle.gba_text.specs.Languages as languages
use Rattle.gba_asm_words.specs.Kinds.{AsmError}
use Rattle.gba_asm.specs.Assembly.{sources, assembly_of}
use Rattle.gba_asm.specs.Places.{labels_of}

-- What a source comes to: the bytes of all its lines, one line's after another's, or its first refused line. Its labels
-- are those of all its lines.
abbrev pub Says : List ℕ → Result (List ℕ) AsmError → Type 0
Says source answer = languages.Says (sources (labels_of source)) source answer

-- the relation and the function are one
abbrev pub IsAnswered : Type 0
IsAnswered = (source : List ℕ) → Says source (assembly_of source)

abbrev pub HasOneAnswer : Type 0
HasOneAnswer = (source : List ℕ) (answer : Result (List ℕ) AsmError) → Says source answer → answer ≡ assembly_of source
