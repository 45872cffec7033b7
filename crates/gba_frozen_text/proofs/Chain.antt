-- Lines that are printed, read one after another.
use Rattle.std.proofs.Common.{◌≡◌, ℕ, suc, ◌+◌, ◌-◌, ◌==◌, true, false, List, [], ◌∷◌, ◌++◌, length, take, Option, Some, Ok, refl, ap, sym, ◌∙◌, subst, append_assoc, arith}
use Rattle.std.specs.Prelude.{map, nat_lt, slice_index}
use Rattle.std.specs.List.{list_all}
use Rattle.std.proofs.lemmas.Bool.Decides.{nat_tests}
use Rattle.gba_text.proofs.Languages.{lines_say-more}
use Rattle.gba_text.proofs.Spans.{first_of_all, negated, rest_of_all}
use Rattle.gba_text.specs.Languages.{lines_say}
use Rattle.gba_text.specs.Lines.{onto_front}
use Rattle.gba_text.specs.Steps.{taken}
use Rattle.gba_frozen.specs.Lines.{Said, Nothing, Values, QueueBytes, WaveBytes, MemoryBytes, Colours, Live, line_said}
use Rattle.gba_frozen.specs.Places.{place_for}
use Rattle.gba_frozen.specs.Reading.{Draft, after_said, fed_lines, frozen_language, read_at, with_line, with_said, without_feed}
use Rattle.gba_frozen.specs.Spelling.{pieces}
use Rattle.gba_frozen.specs.declared.kinds.Setup.{Setup}
use Rattle.gba_frozen.specs.declared.places.Place.{Place}
use Rattle.gba_frozen.specs.declared.rows.Row.TheVariants as row
use Rattle.gba_frozen_read.specs.Thawed.{with_next}
use Rattle.gba_frozen_read.proofs.FedLines.{no_feed}
use Rattle.gba_frozen_read.proofs.Steps.{said-there}
use Rattle.gba_frozen_print.specs.Printed.{ended}
use Rattle.gba_frozen_text.specs.Text.{said_line, text_of}
use Rattle.gba_frozen_text.proofs.Feeds.{Fed}

-- a line with its line feed is one line
fed_more : (word rest : List ℕ) → Fed word → fed_lines (word ++ 10 ∷ rest) ≡ (word ++ 10 ∷ []) ∷ fed_lines rest
unfolding fed_lines
fed_more [] rest h = refl
fed_more (b ∷ word) rest h =
    let plain : (b == 10) ≡ false = negated _ (first_of_all (no_feed b) (list_all no_feed word) h) in
    rw plain (ap (onto_front b) (fed_more word rest (rest_of_all (no_feed b) (list_all no_feed word) h)))

-- and is read without it
last_byte : (word : List ℕ) → slice_index (word ++ 10 ∷ []) (length word) ≡ 10
last_byte [] = refl
last_byte (b ∷ word) = last_byte word

front_bytes : (word : List ℕ) → take (length word) (word ++ 10 ∷ []) ≡ word
front_bytes [] = refl
front_bytes (b ∷ word) = ap (λ (t : List ℕ). b ∷ t) (front_bytes word)

length_ended : (word : List ℕ) → length (word ++ 10 ∷ []) ≡ suc (length word)
length_ended [] = refl
length_ended (b ∷ word) = ap suc (length_ended word)

without-ended : (word : List ℕ) → without_feed (ended word) ≡ Some word
unfolding without_feed
without-ended word =
    let long = length_ended word in
    let before : length (word ++ 10 ∷ []) - 1 ≡ length word = omega (arith, long) in
    let some : nat_lt 0 (length (word ++ 10 ∷ [])) ≡ true = grind (arith, nat_tests, long) in
    let last = last_byte word in
    let front = front_bytes word in
    rw (some, before, last, front) refl

-- what a line says at a place, and where the file is read on
pub record Step (setup : Setup) (at : Place) (line : List ℕ) (said : Said) (to : Place) : Type 0 where
  pub fed : Fed line
  pub read : read_at setup at (ended line) ≡ Ok (taken said to)

pub step : (setup : Setup) (at here : Place) (line : List ℕ) (said : Said) (to : Place) → Fed line
    → place_for setup (pieces line) at ≡ here → line_said setup here line ≡ Ok said → after_said setup here said ≡ to
    → Step setup at line said to
unfolding read_at
step setup at here line said to fed place says after =
    let plain = without-ended line in
    record { fed = fed; read = rw (plain, place, says, after) refl }

with_line-step : (setup : Setup) (d : Draft) (line : List ℕ) (said : Said) (to : Place) → Step setup d.at line said to
    → with_line setup d (ended line) ≡ Ok (with_next to said d)
unfolding with_line
with_line-step setup d line said to s = let read = s.read in rw read refl

pub one-line : (A : Type 0) (setup : Setup) (whole_of : Draft → Option A) (number : ℕ) (d : Draft) (line : List ℕ)
    (said : Said) (to : Place) (rest : List ℕ) → Step setup d.at line said to
    → lines_say (frozen_language setup whole_of) number d (fed_lines (ended line ++ rest))
    ≡ lines_say (frozen_language setup whole_of) (number + 1) (with_next to said d) (fed_lines rest)
one-line A setup whole_of number d line said to rest s =
    ap (λ bs. lines_say (frozen_language setup whole_of) number d (fed_lines bs)) (append_assoc line (10 ∷ []) rest)
    ∙ ap (lines_say (frozen_language setup whole_of) number d) (fed_more line rest s.fed)
    ∙ lines_say-more (frozen_language setup whole_of) number d (ended line) (fed_lines rest) (with_next to said d)
    (with_line-step setup d line said to s)

-- lines that say these, one behind another, from a place to another one
unfoldable pub Reads : Setup → Place → List Said → Place → Type 0
Reads setup at [] to = at ≡ to
Reads setup at (said ∷ says) to = (mid : Place) × Step setup at (said_line said) said mid × Reads setup mid says to

pub reads_none : (setup : Setup) (at : Place) → Reads setup at [] at
unfolding Reads
reads_none setup at = refl

pub reads_more : (setup : Setup) (at mid to : Place) (said : Said) (says : List Said)
    → Step setup at (said_line said) said mid → Reads setup mid says to → Reads setup at (said ∷ says) to
unfolding Reads
reads_more setup at mid to said says s rest = (mid, s, rest)

pub reads_both : (setup : Setup) (at mid to : Place) (one other : List Said) → Reads setup at one mid
    → Reads setup mid other to → Reads setup at (one ++ other) to
unfolding Reads
reads_both setup at mid to [] other h k = subst (λ (p : Place). Reads setup p other to) (sym h) k
reads_both setup at mid to (said ∷ one) other h k = (h.0, h.1, reads_both setup h.0 mid to one other h.2 k)

-- what they come to, wherever they are read
unfoldable pub drafted : List Said → Draft → Draft
drafted [] d = d
drafted (said ∷ says) d = drafted says (with_said said d)

said-anywhere : (said : Said) (d : Draft) (at : Place)
    → with_said said (record d { at = at }) ≡ record (with_said said d) { at = at }
unfolding with_said
said-anywhere Nothing d at = refl
said-anywhere (Values row.Heading values) d at = refl
said-anywhere (Values (row.Console n) values) d at = refl
said-anywhere (Values row.Clock values) d at = refl
said-anywhere (Values row.Halted values) d at = refl
said-anywhere (Values (row.Register n) values) d at = refl
said-anywhere (Values (row.Timer n) values) d at = refl
said-anywhere (Values (row.Dma n) values) d at = refl
said-anywhere (Values row.Sequencer values) d at = refl
said-anywhere (Values (row.Tone n) values) d at = refl
said-anywhere (Values row.Position values) d at = refl
said-anywhere (Values (row.Affine n) values) d at = refl
said-anywhere (Values row.Serial values) d at = refl
said-anywhere (Values row.Known values) d at = refl
said-anywhere (Values row.Flash values) d at = refl
said-anywhere (Values row.Was values) d at = refl
said-anywhere (Values row.Applied values) d at = refl
said-anywhere (Values row.Counts values) d at = refl
said-anywhere (QueueBytes queue current bytes) d at = refl
said-anywhere (WaveBytes bank bytes) d at = refl
said-anywhere (MemoryBytes place bytes) d at = refl
said-anywhere (Colours line colours) d at = refl
said-anywhere (Live sender signal) d at = refl

drafted-anywhere : (says : List Said) (d : Draft) (at : Place)
    → drafted says (record d { at = at }) ≡ record (drafted says d) { at = at }
unfolding drafted
drafted-anywhere [] d at = refl
drafted-anywhere (said ∷ says) d at =
    ap (drafted says) (said-anywhere said d at) ∙ drafted-anywhere says (with_said said d) at

pub drafted-both : (one other : List Said) (d : Draft) → drafted (one ++ other) d ≡ drafted other (drafted one d)
unfolding drafted
drafted-both [] other d = refl
drafted-both (said ∷ one) other d = drafted-both one other (with_said said d)

-- all of them are read
pub lines-read : (A : Type 0) (setup : Setup) (whole_of : Draft → Option A) (number : ℕ) (d : Draft) (says : List Said)
    (to : Place) (rest : List (List ℕ)) → Reads setup d.at says to
    → lines_say (frozen_language setup whole_of) number d (fed_lines (text_of (map said_line says ++ rest)))
    ≡ lines_say (frozen_language setup whole_of) (number + length says) (record (drafted says d) { at = to })
    (fed_lines (text_of rest))
unfolding Reads drafted text_of
lines-read A setup whole_of number d [] to rest h =
    let L = lines_say (frozen_language setup whole_of) in
    ap (λ (p : Place). L number (record d { at = p }) (fed_lines (text_of rest))) h
    ∙ ap (λ n. L n (record d { at = to }) (fed_lines (text_of rest))) (omega arith)
lines-read A setup whole_of number d (said ∷ says) to rest h =
    let next = with_next h.0 said d in
    let there : next.at ≡ h.0 = said-there said (record d { at = h.0 }) in
    let reads : Reads setup next.at says to = subst (λ (p : Place). Reads setup p says to) (sym there) h.2 in
    let same : record (drafted says next) { at = to } ≡ record (drafted says (with_said said d)) { at = to } =
    ap (λ (e : Draft). record (drafted says e) { at = to }) (said-anywhere said d h.0)
    ∙ ap (λ (e : Draft). record e { at = to }) (drafted-anywhere says (with_said said d) h.0) in
    one-line A setup whole_of number d (said_line said) said h.0 (text_of (map said_line says ++ rest)) h.1
    ∙ lines-read A setup whole_of (number + 1) next says to rest reads
    ∙ ap (λ n. lines_say (frozen_language setup whole_of) n (record (drafted says next) { at = to })
    (fed_lines (text_of rest))) (omega arith)
    ∙ ap (λ (e : Draft). lines_say (frozen_language setup whole_of) (number + suc (length says)) e
    (fed_lines (text_of rest))) same
