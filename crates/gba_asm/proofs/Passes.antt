-- The two passes over the lines of a source.
use Rattle.std.proofs.Common.{◌≡◌, ◌≤◌, ℕ, ◌+◌, Bool, true, false, cond, ◌&&◌, nat_lt, List, [], ◌∷◌, ◌++◌, length, Some, None, Result, Ok, Err, refl, sym, ap, ◌∙◌, length-take, arith}
use Rattle.std.specs.List.{list_all, prefix_len}
use Rattle.std.specs.Map.{update}
use Rattle.std.specs.Str.{bytes_eq}
use Rattle.std.proofs.lemmas.Bool.Decides.{nat_tests}
use Rattle.std.proofs.lemmas.Slice.Eq.{bytes_eq-Decides}
use Rattle.gba_text.specs.Lines.{lines}
use Rattle.gba_text.specs.Answers.{Reads}
use Rattle.gba_text.specs.Reading.{Reading, first_of}
use Rattle.gba_text.proofs.Languages as languages
use Rattle.gba_text.proofs.ReadLines.{IsReading, Opens, closes}
use Rattle.gba_asm_words.specs.declared.kinds.AsmKind.TheVariants.{Size, Unknown}
use Rattle.gba_asm_words.specs.Names.{first_some, is_label}
use Rattle.gba_asm_words.specs.Readers.{begins, other_tokens}
use Rattle.gba_asm_words.specs.Tokens.{Token, Word, Mark, tokens, code_of, fault_of, is_source_byte, no_semicolon}
use Rattle.gba_asm_words.proofs.FirstTokens.{tokens-few}
use Rattle.gba_asm_words.specs.declared.kinds.AsmKind.{AsmKind}
use Rattle.gba_asm.specs.Answers.{Adds, line_error, onto, refused_at}
use Rattle.gba_asm.specs.Assembly.{Assembled, assembly_of, assembled_with, line_bytes, sources}
use Rattle.gba_asm.specs.declared.kinds.AsmRefused.{AsmRefused}
use Rattle.gba_asm.specs.declared.kinds.LineRefused.{LineRefused}
use Rattle.gba_asm.specs.declared.kinds.LineRefused.TheVariants as refused
use Rattle.gba_asm.specs.declared.labels.LabelPlace.{LabelPlace}
use Rattle.gba_asm.specs.declared.places.Place.{Place}
use Rattle.gba_asm.specs.Language.{Says}
use Rattle.gba_asm.specs.Places.{Labels, labels_from, labels_of, no_labels, with_label, place_after, past_statement, start}
use Rattle.gba_asm.specs.Statements.{label_of, line_says, split_label, unlabelled}

pub same_labels : (f g : Labels) → ((name : List ℕ) → f name ≡ g name) → f ≡ g
same_labels f g h = λ t name. h name t

labels_from-more : (f : Labels) (n : ℕ) (p : Place) (line : List ℕ) (ls : List (List ℕ))
    → labels_from f n p (line ∷ ls)
    ≡ labels_from (with_label (n + 1) p.address (label_of line) f) (n + 1) (place_after p line) ls
unfolding labels_from
labels_from-more f n p line ls = refl

labels_from-end : (f : Labels) (n : ℕ) (p : Place) → labels_from f n p [] ≡ f
unfolding labels_from
labels_from-end f n p = refl

-- the labels that are known, with those of the lines that are left, are the source's
abbrev pub AreFound : List ℕ → Labels → ℕ → Place → List (List ℕ) → Type 0
AreFound source f n p ls = (name : List ℕ) → labels_from f n p ls name ≡ labels_of source name

pub found_first : (source : List ℕ) (f : Labels) → ((name : List ℕ) → f name ≡ None)
    → AreFound source f 0 start (lines source)
unfolding labels_of
found_first source f none = λ name.
    ap (λ (g : Labels). labels_from g 0 start (lines source) name) (same_labels f no_labels none)

pub found_more : (source : List ℕ) (f g : Labels) (old new : Reading) (p q : Place) (line : List ℕ)
    → AreFound source f old.number p old.lines → Opens old new line
    → ((name : List ℕ) → g name ≡ with_label new.number p.address (label_of line) f name)
    → q ≡ place_after p line → AreFound source g new.number q new.lines
found_more source f g old new p q line h o added moved = λ name.
    let known : g ≡ with_label (old.number + 1) p.address (label_of line) f =
    same_labels g _ (rw o.number at added) in
    let here : labels_from f old.number p (line ∷ new.lines) name ≡ labels_of source name = rw o.lines at (h name) in
    rw (known, moved, o.number)
    (ap (λ (k : Labels). k name) (sym (labels_from-more f old.number p line new.lines)) ∙ here)

pub found_all : (source : List ℕ) (f : Labels) (old : Reading) (p : Place) → AreFound source f old.number p old.lines
    → None ≡ first_of old.lines → (name : List ℕ) → f name ≡ labels_of source name
found_all source f old p h none = λ name.
    let here : labels_from f old.number p [] name ≡ labels_of source name = rw (closes old.lines none) at (h name) in
    ap (λ (k : Labels). k name) (sym (labels_from-end f old.number p)) ∙ here

pub place_after-is : (p : Place) (line : List ℕ) → past_statement p (line_says p.thumb line) ≡ place_after p line
unfolding place_after
place_after-is p line = refl

same_name : (f : Labels) (label name : List ℕ) (place : LabelPlace) → f label ≡ None → (t : Bool)
    → bytes_eq label name ≡ t → cond t (Some place) (f name) ≡ cond t (first_some (f name) (Some place)) (f name)
same_name f label name place none true e =
    let same : label ≡ name = grind (arith, bytes_eq-Decides) in
    let absent : f name ≡ None = rw same at none in
    rw absent refl
same_name f label name place none false e = refl

-- a label that wasn't there
pub label_added : (f : Labels) (label name : List ℕ) (number address : ℕ) → f label ≡ None
    → update bytes_eq f label (Some (record { line = number; address = address })) name
    ≡ with_label number address (Some label) f name
label_added f label name number address none =
    same_name f label name (record { line = number; address = address }) none (bytes_eq label name) refl

split_few : (ts : List Token) → length (split_label ts).rest ≤ length ts
unfolding split_label
split_few [] = omega arith
split_few (Mark m ∷ ts) = omega arith
split_few (Word w ∷ ts) = by_test (is_label w && begins 58 ts) where
  by_test : (t : Bool)
      → length (cond t (record { label = Some w; rest = other_tokens ts }) (unlabelled (Word w ∷ ts))).rest
      ≤ length (Word w ∷ ts)
  by_test true = few ts where
    few : (ts : List Token) → length (other_tokens ts) ≤ length (Word w ∷ ts)
    few [] = omega arith
    few (t ∷ ts) = omega arith
  by_test false = omega arith

short_by : (line : List ℕ) (s t : Bool) → nat_lt 400 (length line) ≡ s
    → cond s (Some Size) (cond t None (Some Unknown)) ≡ None → length line ≤ 400
short_by line true t e h = absurd cc
short_by line false t e h = grind (arith, nat_tests)

-- a line without a fault has few tokens, and so have those after its label
pub few_tokens : (line rest : List ℕ) → None ≡ fault_of line
    → tokens rest ≡ (split_label (tokens (code_of line))).rest → length (tokens rest) ≤ 400
unfolding fault_of
few_tokens line rest sound same =
    let short = short_by line (nat_lt 400 (length line)) (list_all is_source_byte (code_of line)) refl (sym sound) in
    let cut = length-take (prefix_len no_semicolon line) line in
    omega (arith, ap length same, split_few (tokens (code_of line)), tokens-few (code_of line), short, cut)

-- the lines that are left give the rest of the source's bytes
abbrev pub AreGiven : List ℕ → List ℕ → ℕ → Place → List (List ℕ) → Type 0
AreGiven source image n p ls =
    IsReading (sources (labels_of source)) source n (record { bytes = image; place = p }) ls

onto-is : (r : Result (List ℕ) AsmKind) (image after : List ℕ) → onto image r ≡ Ok after
    → (bytes : List ℕ) × (r ≡ Ok bytes) × (image ++ bytes ≡ after)
onto-is (Ok bytes) image after h = (bytes, refl, cc)
onto-is (Err kind) image after h = absurd cc

-- a line that gives these bytes, after those that were given before
pub given_line : (labels : Labels) (n : ℕ) (before bytes : List ℕ) (p q : Place) (line : List ℕ)
    → line_bytes labels n p line ≡ Ok bytes → place_after p line ≡ q
    → assembled_with labels n (record { bytes = before; place = p }) line
    ≡ Ok (record { bytes = before ++ bytes; place = q })
unfolding assembled_with
given_line labels n before bytes p q line h moved = rw (h, moved) refl

-- the same of a line whose bytes were added
pub line_given : (labels : Labels) (n : ℕ) (image after : List ℕ) (p q : Place) (line : List ℕ)
    → onto image (line_bytes labels n p line) ≡ Ok after → q ≡ place_after p line
    → assembled_with labels n (record { bytes = image; place = p }) line ≡ Ok (record { bytes = after; place = q })
line_given labels n image after p q line added moved =
    let o = onto-is (line_bytes labels n p line) image after added in
    given_line labels n image o.0 p q line o.1 (sym moved)
    ∙ ap (λ (bytes : List ℕ). Ok (record { bytes = bytes; place = q })) o.2

-- a line is refused as it is defined, or memory is wanting
pub line_refused : (labels : Labels) (n : ℕ) (given : Assembled) (image after line : List ℕ) (r : LineRefused)
    (answer : AsmRefused)
    → Adds {T = Place} (Err r) image after (line_bytes labels n given.place line) → answer ≡ refused_at n r
    → Reads {X = Unit {0}} line_error (Err answer) n given (assembled_with labels n given line)
unfolding assembled_with
line_refused labels n given image after line (refused.Kind kind) answer adds told = rw (told, adds) (refl, refl)
line_refused labels n given image after line refused.NoMemory answer adds told = rw told tt

-- each source has the answer that the function gives
pub says : (source : List ℕ) → Says source (assembly_of source)
unfolding assembly_of
says source = languages.says (sources (labels_of source)) source
