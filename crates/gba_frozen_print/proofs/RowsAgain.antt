-- A row that is printed is read again as it was.
use Rattle.std.proofs.Common.{◌≡◌, ℕ, zero, suc, Bool, true, ◌&&◌, List, [], ◌∷◌, ◌++◌, get_or, Option, Some, None, Ok, refl, ap, sym, ◌∙◌, arith}
use Rattle.std.specs.Prelude.{decimal, slice_index_or}
use Rattle.std.specs.List.{list_all}
use Rattle.std.proofs.lemmas.Bool.Decides.{nat_tests}
use Rattle.gba_terms.specs.RegisterNames.{register_names}
use Rattle.gba_text.proofs.Spans.{first_of_all, rest_of_all}
use Rattle.gba_text.specs.Steps.{taken}
use Rattle.gba_frozen_print.specs.Laws.{RowsAgain}
use Rattle.gba_frozen.specs.Lines.{row_said}
use Rattle.gba_frozen.specs.Rows.{count_of, is_row, keyword_of, number_of_row, number_words, spelled_all, spelling_of}
use Rattle.gba_frozen.specs.Words.{LineWords, number_behind, values_at}
use Rattle.gba_frozen.specs.declared.rows.Row.{Row}
use Rattle.gba_frozen.specs.declared.rows.Row.TheVariants as row
use Rattle.gba_frozen.proofs.LinePieces.{AreWords, are_more, are_none, no_space, pieces-joined}
use Rattle.gba_frozen_print.proofs.LinesAgain.{are_words-spelled, exact-again, values-again}
use Rattle.gba_frozen_print.proofs.SpelledAgain.{no_space-decimal}

-- each name of a register is a word
abbrev names_plain : List (List ℕ) → Bool
names_plain [] = true
names_plain (name ∷ names) = list_all no_space name && names_plain names

name-plain : (names : List (List ℕ)) (i : ℕ) → names_plain names ≡ true → list_all no_space (get_or names i []) ≡ true
name-plain [] i h = refl
name-plain (name ∷ names) zero h = first_of_all (list_all no_space name) (names_plain names) h
name-plain (name ∷ names) (suc i) h = name-plain names i (rest_of_all (list_all no_space name) (names_plain names) h)

registers-plain : (register : ℕ) → list_all no_space (slice_index_or register_names register []) ≡ true
unfolding register_names
registers-plain register = name-plain register_names register refl

no_space-keyword : (which : Row) → list_all no_space (keyword_of which) ≡ true
unfolding keyword_of
no_space-keyword row.Heading = refl
no_space-keyword (row.Console n) = refl
no_space-keyword row.Clock = refl
no_space-keyword row.Halted = refl
no_space-keyword (row.Register n) = registers-plain n
no_space-keyword (row.Timer n) = refl
no_space-keyword (row.Dma n) = refl
no_space-keyword row.Sequencer = refl
no_space-keyword (row.Tone n) = refl
no_space-keyword row.Position = refl
no_space-keyword (row.Affine n) = refl
no_space-keyword row.Serial = refl
no_space-keyword row.Known = refl
no_space-keyword row.Flash = refl
no_space-keyword row.Was = refl
no_space-keyword row.Applied = refl
no_space-keyword row.Counts = refl

are_words-number : (which : Row) → is_row which ≡ true → AreWords (number_words (number_of_row which))
unfolding number_of_row is_row
are_words-number row.Heading is = are_more (decimal 1) [] (no_space-decimal 1 (omega arith)) are_none
are_words-number (row.Console n) is = are_more (decimal n) [] (no_space-decimal n (grind (arith, nat_tests))) are_none
are_words-number row.Clock is = are_none
are_words-number row.Halted is = are_none
are_words-number (row.Register n) is = are_none
are_words-number (row.Timer n) is = are_more (decimal n) [] (no_space-decimal n (grind (arith, nat_tests))) are_none
are_words-number (row.Dma n) is = are_more (decimal n) [] (no_space-decimal n (grind (arith, nat_tests))) are_none
are_words-number row.Sequencer is = are_none
are_words-number (row.Tone n) is = are_more (decimal n) [] (no_space-decimal n (grind (arith, nat_tests))) are_none
are_words-number row.Position is = are_none
are_words-number (row.Affine n) is = are_more (decimal n) [] (no_space-decimal n (grind (arith, nat_tests))) are_none
are_words-number row.Serial is = are_none
are_words-number row.Known is = are_none
are_words-number row.Flash is = are_none
are_words-number row.Was is = are_none
are_words-number row.Applied is = are_none
are_words-number row.Counts is = are_none

are_words-append : (one other : List (List ℕ)) → AreWords one → AreWords other → AreWords (one ++ other)
unfolding AreWords
are_words-append [] other are rest = rest
are_words-append (word ∷ one) other are rest = (are.0, are_words-append one other are.1 rest)

number_behind-again : (number : Option ℕ) (rest : LineWords)
    → number_behind number (number_words number ++ rest) ≡ Ok (taken true rest)
unfolding number_behind
number_behind-again None rest = refl
number_behind-again (Some n) rest = exact-again (decimal n) rest

pub rows-again : RowsAgain
unfolding row_said
rows-again until which values is count are =
    let rest = spelled_all (spelling_of which) values in
    let words = number_words (number_of_row which) ++ rest in
    let k = exact-again (keyword_of which) words in
    let n = number_behind-again (number_of_row which) rest in
    let v : values_at (spelling_of which) (count_of which) [] rest ≡ Ok (taken values []) =
    ap (λ c. values_at (spelling_of which) c [] rest) (sym count) ∙ values-again (spelling_of which) [] values are in
    let all =
    are_words-append (number_words (number_of_row which)) rest (are_words-number which is)
    (are_words-spelled (spelling_of which) values are) in
    ap (row_said until which) (pieces-joined (keyword_of which) words (no_space-keyword which) all) ∙ rw (k, n, v) refl
