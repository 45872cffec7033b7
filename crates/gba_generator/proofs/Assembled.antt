-- The sources of the generator are of the assembly language.
use Rattle.std.proofs.Common.{◌≡◌, ◌≤◌, ◌<◌, ◌^◌, ℕ, ◌+◌, ◌-◌, true, ◌==◌, List, [], ◌∷◌, ◌++◌, length, map, replicate, take, Some, None, codes, Result, Ok, Err, refl, sym, ap, ◌∙◌, length-append, arith}
use Rattle.std.specs.Prelude.{decimal}
use Rattle.std.proofs.lemmas.Bool.Decides.{nat_tests}
use Rattle.std.proofs.lemmas.List.{length-replicate, take_all}
use Rattle.gba_image.specs.Checks.{bios_fault}
use Rattle.gba_image.specs.declared.error.ImageError.{ImageError}
use Rattle.gba_text.specs.Languages.{lines_say}
use Rattle.gba_text.specs.Lines.{lines}
use Rattle.gba_text.proofs.Languages.{answer_of-lines}
use Rattle.gba_asm.specs.Assembly.{Assembled, assembly_of, longest_source, sources}
use Rattle.gba_asm.specs.Places.{Labels, labels_of, no_labels, start}
use Rattle.gba_asm_words.specs.Kinds.{AsmError}
use Rattle.gba_generator.specs.Law.{IsCode}
use Rattle.gba_generator.specs.Source.{bios, bios_length, code, code_in, program, seed, source}
use Rattle.gba_generator.proofs.ProgramRows.{program-rows, program_rows}
use Rattle.gba_generator.proofs.Rows.{AreRows, Row, bytes_in, known, labelled, line_in, rows-give, rows-labels}
use Rattle.gba_generator.proofs.SeedLine.{IsNumeral, is-numeral, seed-lines, seed-row, seed_line}

-- the lines of the source whose seed has these digits
abbrev all_rows : ℕ → List ℕ → List Row
all_rows n ds = program_rows (labelled (codes "seed") (seed_line ds) n ∷ [])

abbrev text : List ℕ → List ℕ
text ds = program ++ (codes "seed:   .word " ++ (ds ++ codes "\n"))

all-rows : (n : ℕ) (ds : List ℕ) → n < 2 ^ 32 → IsNumeral n ds → AreRows 0 0 (all_rows n ds)
all-rows n ds small is = program-rows (labelled (codes "seed") (seed_line ds) n ∷ []) (seed-row n ds small is, tt)

begin-lines : (n : ℕ) (ds : List ℕ)
    → lines (text ds) ≡ map line_in (program_rows []) ++ lines (seed_line ds ++ 10 ∷ [])
unfolding lines
begin-lines n ds = refl

all-lines : (n : ℕ) (ds : List ℕ) → IsNumeral n ds → lines (text ds) ≡ map line_in (all_rows n ds)
all-lines n ds is = begin-lines n ds ∙ ap (λ last. map line_in (program_rows []) ++ last) (seed-lines n ds is)

all-labels : (n : ℕ) (ds : List ℕ) → n < 2 ^ 32 → IsNumeral n ds → labels_of (text ds) ≡ known
unfolding labels_of
all-labels n ds small is =
    rw (all-lines n ds is) (rows-labels no_labels 0 0 (all_rows n ds) (all-rows n ds small is))

short : (n : ℕ) (ds : List ℕ) → IsNumeral n ds → length (text ds) ≤ longest_source
short n ds is =
    let tail : length (codes "seed:   .word " ++ (ds ++ codes "\n")) ≡ 14 + (length ds + 1) =
    length-append (codes "seed:   .word ") (ds ++ codes "\n") ∙ ap (λ k. 14 + k) (length-append ds (codes "\n")) in
    let front : length program ≡ 579 = refl in
    let long : length (text ds) ≡ 579 + (14 + (length ds + 1)) =
    length-append program (codes "seed:   .word " ++ (ds ++ codes "\n")) ∙ ap (λ k. length program + k) tail
    ∙ ap (λ k. k + (14 + (length ds + 1))) front in
    omega (arith, long, is.few)

abbrev begun : Assembled
begun = record { bytes = []; place = start }

assembles : (n : ℕ) (ds : List ℕ) → n < 2 ^ 32 → IsNumeral n ds → assembly_of (text ds) ≡ Ok (bytes_in (all_rows n ds))
unfolding assembly_of
assembles n ds small is =
    answer_of-lines (sources (labels_of (text ds))) (text ds) (Ok (bytes_in (all_rows n ds))) (short n ds is)
    (ap (λ (f : Labels). lines_say (sources f) 0 begun (lines (text ds))) (all-labels n ds small is)
    ∙ ap (λ (ls : List (List ℕ)). lines_say (sources known) 0 begun ls) (all-lines n ds is)
    ∙ rows-give 0 0 [] (all_rows n ds) (all-rows n ds small is))

code-is : (number player : ℕ)
    → code number player ≡ bytes_in (all_rows (seed number player) (decimal (seed number player)))
unfolding code
code-is number player =
    let n = seed number player in
    let small : n < 2 ^ 32 = omega arith in
    ap code_in (assembles n (decimal n) small (is-numeral n small))

pub is-code : (number player : ℕ) → IsCode number player
is-code number player =
    let n = seed number player in
    let small : n < 2 ^ 32 = omega arith in
    let long : length (code number player) ≡ 104 = ap length (code-is number player) in
    record {
      says = assembles n (decimal n) small (is-numeral n small) ∙ ap Ok (sym (code-is number player));
      fits = omega (arith, long);
      whole =
          omega (
            arith,
            long,
            length-append (code number player) (replicate (bios_length - length (code number player)) 0),
            length-replicate {A = ℕ} (bios_length - length (code number player)) 0,
          );
    }

pub code-given : (number player : ℕ) (bytes : List ℕ) → assembly_of (source number player) ≡ Ok bytes
    → bytes ≡ code number player
unfolding code
code-given number player bytes h = sym (ap code_in h)

pub never-refused : (number player : ℕ) (error : AsmError) → assembly_of (source number player) ≡ Err error → ⊥
never-refused number player error h = apart (assembly_of (source number player)) (is-code number player).says h where
  apart : (r : Result (List ℕ) AsmError) → r ≡ Ok (code number player) → r ≡ Err error → ⊥
  apart (Ok bytes) e f = cc
  apart (Err other) e f = cc

pub filled-is : (number player count : ℕ) (old new : List ℕ) → old ≡ code number player → count ≡ length old
    → new ≡ take bios_length old ++ replicate (bios_length - count) 0 → new ≡ bios number player
filled-is number player count old new is long filled =
    let fits : length old ≤ bios_length = omega (arith, ap length is, (is-code number player).fits) in
    filled ∙ ap (λ n. take bios_length old ++ replicate (bios_length - n) 0) long
    ∙ ap (λ front. front ++ replicate (bios_length - length old) 0) (take_all bios_length old fits)
    ∙ ap (λ bytes. bytes ++ replicate (bios_length - length bytes) 0) is

pub bios-passes : (number player : ℕ) (bytes : List ℕ) (error : ImageError) → bytes ≡ bios number player
    → bios_fault bytes ≡ Some error → ⊥
unfolding bios_fault
bios-passes number player bytes error is h =
    let long : length bytes ≡ 16384 = ap length is ∙ (is-code number player).whole in
    let fine : (length bytes == 16384) ≡ true = grind (arith, nat_tests) in
    let none = rw fine at h in
    cc

pub bios-fine : (number player : ℕ) → bios_fault (bios number player) ≡ None
unfolding bios_fault
bios-fine number player =
    let fine : (length (bios number player) == 16384) ≡ true =
    grind (arith, nat_tests, (is-code number player).whole) in
    rw fine refl
