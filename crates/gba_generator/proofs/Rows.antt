-- Lines of words that stand one after another, and what the assembler makes of them.
use Rattle.std.proofs.Common.{◌≡◌, ℕ, ◌+◌, false, List, [], ◌∷◌, ◌++◌, map, codes, Option, Some, None, Ok, refl, sym, ap, ◌∙◌, append_assoc}
use Rattle.std.proofs.lemmas.List.{append-nil}
use Rattle.std.specs.Int.{w32, to_le_bytes}
use Rattle.gba_text.specs.Languages.{lines_say}
use Rattle.gba_text.proofs.Languages.{lines_say-end, lines_say-more}
use Rattle.gba_asm.specs.Assembly.{line_bytes, sources}
use Rattle.gba_asm.proofs.Passes.{given_line}
use Rattle.gba_asm.specs.Places.{Labels, labels_from, no_labels, place_after, with_label}
use Rattle.gba_asm.specs.Statements.{label_of}

-- a line, its label, and its word
pub record Row : Type 0 where
  pub line : List ℕ
  pub label : Option (List ℕ)
  pub bytes : List ℕ

abbrev pub plain : List ℕ → ℕ → Row
plain line word = record { line = line; label = None; bytes = to_le_bytes w32 word }

abbrev pub labelled : List ℕ → List ℕ → ℕ → Row
labelled label line word = record { line = line; label = Some label; bytes = to_le_bytes w32 word }

abbrev pub line_in : Row → List ℕ
line_in row = row.line

abbrev pub label_in : Row → Option (List ℕ)
label_in row = row.label

abbrev pub bytes_in : List Row → List ℕ
bytes_in [] = []
bytes_in (row ∷ rows) = row.bytes ++ bytes_in rows

-- the labels of lines that stand after so many others, from this address on
abbrev pub labels_at : Labels → ℕ → ℕ → List (Option (List ℕ)) → Labels
labels_at labels number address [] = labels
labels_at labels number address (label ∷ rest) =
    labels_at (with_label (number + 1) address label labels) (number + 1) (address + 4) rest

-- the labels of the generator's source
abbrev pub all_labels : List (Option (List ℕ))
all_labels =
    None ∷ None ∷ None ∷ None ∷ None ∷ None ∷ None ∷ None ∷ None ∷ Some (codes "again") ∷ None ∷ None ∷ None
    ∷ Some (codes "hold") ∷ None ∷ None ∷ None ∷ None ∷ None ∷ None ∷ None ∷ Some (codes "mode") ∷ Some (codes "go")
    ∷ Some (codes "factor") ∷ Some (codes "adder") ∷ Some (codes "seed") ∷ []

abbrev pub known : Labels
known = labels_at no_labels 0 0 all_labels

-- the line of this number at this address is as its row says
pub record IsRow (number address : ℕ) (row : Row) : Type 0 where
  pub label : label_of row.line ≡ row.label
  pub place : place_after (record { address = address; thumb = false }) row.line ≡ record {
    address = address + 4;
    thumb = false;
  }
  pub bytes : line_bytes known number (record { address = address; thumb = false }) row.line ≡ Ok row.bytes

abbrev pub AreRows : ℕ → ℕ → List Row → Type 0
AreRows number address [] = Prim.Unit {0}
AreRows number address (row ∷ rows) = IsRow (number + 1) address row × AreRows (number + 1) (address + 4) rows

pub rows-labels : (labels : Labels) (number address : ℕ) (rows : List Row) → AreRows number address rows
    → labels_from labels number (record { address = address; thumb = false }) (map line_in rows)
    ≡ labels_at labels number address (map label_in rows)
unfolding labels_from
rows-labels labels number address [] are = refl
rows-labels labels number address (row ∷ rows) are =
    ap (λ label. labels_from (with_label (number + 1) address label labels) (number + 1)
    (place_after (record { address = address; thumb = false }) row.line) (map line_in rows)) are.0.label
    ∙ ap (λ p. labels_from (with_label (number + 1) address row.label labels) (number + 1) p (map line_in rows))
    are.0.place
    ∙ rows-labels (with_label (number + 1) address row.label labels) (number + 1) (address + 4) rows are.1

pub rows-give : (number address : ℕ) (before : List ℕ) (rows : List Row) → AreRows number address rows
    → lines_say (sources known) number (record { bytes = before; place = record { address = address; thumb = false } })
    (map line_in rows)
    ≡ Ok (before ++ bytes_in rows)
rows-give number address before [] are = lines_say-end (sources known) number _ ∙ ap Ok (sym (append-nil before))
rows-give number address before (row ∷ rows) are =
    let step = given_line known (number + 1) before row.bytes (record { address = address; thumb = false })
    (record { address = address + 4; thumb = false }) row.line are.0.bytes are.0.place in
    lines_say-more (sources known) number
    (record { bytes = before; place = record { address = address; thumb = false } }) row.line (map line_in rows) _ step
    ∙ rows-give (number + 1) (address + 4) (before ++ row.bytes) rows are.1
    ∙ ap Ok (append_assoc before row.bytes (bytes_in rows))
