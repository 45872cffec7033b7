-- Where lines stand, and where their labels are.
use Rattle.std.specs.Prelude.{ℕ, ◌+◌, Bool, false, not, nat_le, ◌==◌, List, [], ◌∷◌, Option, Some, None, Result, Ok, Err, if◌then◌else◌}
use Rattle.std.specs.Str.{bytes_eq}
use Rattle.gba_text.specs.Lines.{lines}
use Rattle.gba_asm_words.specs.declared.kinds.AsmKind.{AsmKind}
use Rattle.gba_asm_words.specs.Names.{first_some}
use Rattle.gba_image.specs.Checks.{longest_cartridge}
use Rattle.gba_asm.specs.declared.labels.LabelPlace.{LabelPlace}
use Rattle.gba_asm.specs.declared.places.Place.{Place}
use Rattle.gba_asm.specs.Statements.{Statement, Nothing, Mode, Data, Space, Align, Arm, Thumb, line_says, label_of, size_of}

-- whether so many bytes at this address are in an image
abbrev pub fits : ℕ → ℕ → Bool
fits address size = nat_le (address + size) longest_cartridge

-- a source begins at address 0 in ARM state
abbrev pub start : Place
start = record { address = 0; thumb = false }

-- the state after a statement
abbrev pub state_after : Bool → Statement → Bool
state_after state (Mode thumb) = thumb
state_after state Nothing = state
state_after state (Data width items) = state
state_after state (Space count) = state
state_after state Align = state
state_after state (Arm s) = state
state_after state (Thumb s) = state

abbrev pub after_statement : Place → Statement → Place
after_statement p s = record { address = p.address + size_of p.address s; thumb = state_after p.thumb s }

abbrev pub past_statement : Place → Result Statement AsmKind → Place
past_statement p (Ok s) = if fits p.address (size_of p.address s) then after_statement p s else p
past_statement p (Err kind) = p

-- Where the line after this one stands. A line that says nothing, or that doesn't fit the image, moves nothing.
unfoldable pub place_after : Place → List ℕ → Place
place_after p line = past_statement p (line_says p.thumb line)

-- labels by their names, each with the first line that has it and the address of what follows it
abbrev pub Labels : Type 0
Labels = List ℕ → Option LabelPlace

abbrev pub no_labels : Labels
no_labels name = None

-- a label more, unless an earlier line has it
abbrev pub with_label : ℕ → ℕ → Option (List ℕ) → Labels → Labels
with_label number address None labels name = labels name
with_label number address (Some label) labels name =
    if bytes_eq label name then first_some (labels name) (Some (record { line = number; address = address }))
    else labels name

-- the labels of lines that stand after so many others, beside those that are known
unfoldable pub labels_from : Labels → ℕ → Place → List (List ℕ) → Labels
labels_from labels number p [] = labels
labels_from labels number p (line ∷ rest) =
    labels_from (with_label (number + 1) p.address (label_of line) labels) (number + 1) (place_after p line) rest

-- the labels of a source
unfoldable pub labels_of : List ℕ → Labels
labels_of source = labels_from no_labels 0 start (lines source)

abbrev pub is_earlier : ℕ → Option LabelPlace → Bool
is_earlier number None = false
is_earlier number (Some place) = not (place.line == number)

-- whether an earlier line has the label of the line of this number
abbrev pub is_repeated : Labels → ℕ → Option (List ℕ) → Bool
is_repeated labels number None = false
is_repeated labels number (Some label) = is_earlier number (labels label)
