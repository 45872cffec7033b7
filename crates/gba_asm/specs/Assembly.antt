-- The bytes of a source, or its first refused line.
use Rattle.std.specs.Prelude.{ℕ, Bool, not, List, [], ◌++◌, Result, Ok}
use Rattle.gba_text.specs.Languages.{Language, answer_of}
use Rattle.gba_text.specs.Lines.{lines}
use Rattle.gba_text.specs.Steps.{◌>>=◌, holds}
use Rattle.gba_asm_words.specs.declared.kinds.AsmKind.{AsmKind}
use Rattle.gba_asm_words.specs.declared.kinds.AsmKind.TheVariants as kind
use Rattle.gba_asm_words.specs.Kinds.{AsmError}
use Rattle.gba_asm.specs.declared.places.Place.{Place}
use Rattle.gba_asm.specs.Encoding.{statement_bytes}
use Rattle.gba_asm.specs.Places.{Labels, no_labels, start, fits, place_after, labels_of, is_repeated}
use Rattle.gba_asm.specs.Statements.{line_says, label_of, size_of}

-- The bytes of the line of this number, or why it is refused. The tests in their order: the line's length, its bytes
-- and its statement's name, its operands; the image's size; a repeated label; a label that no line has; a number or an
-- address. The size of an image is known only of a line that has a form, so it is tested there.
unfoldable pub line_bytes : Labels → ℕ → Place → List ℕ → Result (List ℕ) AsmKind
line_bytes labels number p line = do
  s ← line_says p.thumb line
  _ ← holds (fits p.address (size_of p.address s)) kind.Size
  _ ← holds (not (is_repeated labels number (label_of line))) kind.Repeated
  statement_bytes labels p.address s

-- the bytes of a line by itself at this address, in ARM or in Thumb state, or why it is refused; no line has a label
unfoldable pub lone_bytes : Bool → ℕ → List ℕ → Result (List ℕ) AsmKind
lone_bytes thumb address line = line_bytes no_labels 1 (record { address = address; thumb = thumb }) line

-- what is assembled of the lines before: their bytes, and where the next line stands
pub record Assembled : Type 0 where
  pub bytes : List ℕ
  pub place : Place

abbrev pub plus_bytes : Assembled → List ℕ → List ℕ → Assembled
plus_bytes before line bytes = record { bytes = before.bytes ++ bytes; place = place_after before.place line }

-- what is assembled once the line of this number is read as well
unfoldable pub assembled_with : Labels → ℕ → Assembled → List ℕ → Result Assembled AsmKind
assembled_with labels number before line =
    line_bytes labels number before.place line >>= (λ bytes. Ok (plus_bytes before line bytes))

-- the most bytes of a source
abbrev pub longest_source : ℕ
longest_source = 1073741824

-- a source whose labels are these; it may end anywhere
abbrev pub sources : Labels → Language Assembled (List ℕ) AsmKind
sources labels = record {
  lines_of = lines;
  longest = longest_source;
  too_long = kind.Size;
  nothing = record { bytes = []; place = start };
  with_line = assembled_with labels;
  at_end = λ _ assembled. Ok assembled.bytes;
}

-- the bytes of a source, or its first refused line; a source that is too long is refused with line 0
unfoldable pub assembly_of : List ℕ → Result (List ℕ) AsmError
assembly_of source = answer_of (sources (labels_of source)) source
