-- One drawn line more.
use Rattle.std.proofs.Common.{◌≡◌, ◌≢◌, ◌<◌, ℕ, zero, suc, ◌+◌, ◌*◌, ◌==◌, ◌&&◌, Bool, true, false, not, List, [], ◌∷◌, ◌++◌, length, take, drop, refl, ap, sym, ◌∙◌, get_or, arith}
use Rattle.std.proofs.lemmas.Bool.Decides.{nat_tests}
use Rattle.std.proofs.lemmas.Grind.{flat_map-append}
use Rattle.std.proofs.lemmas.List.{append-nil, length-append, length-map, map-append, take_all, take_more}
use Rattle.std.proofs.lemmas.List.Concat.{flat_map-cons}
use Rattle.std.proofs.lemmas.Slice.{take-put_mid}
use borrow.Rule.Slice.PartMut.{put_mid}
use Rattle.gba_screen.specs.Lines.{colour_bytes, colours_bytes}
use Rattle.gba_filling.specs.Drawn.{AreLines, DrawnLines, are_numbered, bytes_of_line, lines_in}

-- one colour's bytes more
pub spelled-more : (bytes more colours : List ℕ) (place wide colour : ℕ) → length bytes ≡ 480 → length more ≡ 2
    → length colours ≡ 240 → place < length colours → colour ≡ get_or colours place 0 → more ≡ colour_bytes colour
    → take (2 * place) bytes ≡ colours_bytes (take place colours)
    → take (2 * (place + 1)) (put_mid (2 * place) wide bytes more) ≡ colours_bytes (take (place + 1) colours)
spelled-more bytes more colours place wide colour whole two count early here spelled done =
    take-put_mid (2 * place) wide bytes more (2 * (place + 1)) (omega arith) (omega arith)
    ∙ ap (λ (front : List ℕ). front ++ more) done
    ∙ ap (λ (back : List ℕ). colours_bytes (take place colours) ++ back)
    (spelled ∙ sym (flat_map-cons colour_bytes colour [] ∙ append-nil (colour_bytes colour)))
    ∙ sym (flat_map-append colour_bytes (take place colours) (colour ∷ []))
    ∙ ap colours_bytes (ap (λ (c : ℕ). take place colours ++ c ∷ []) here ∙ sym (take_more colours place 0 early))

pub spelled-all : (bytes colours : List ℕ) (place : ℕ) → length bytes ≡ 480 → length colours ≡ 240 → place ≡ 240
    → take (2 * place) bytes ≡ colours_bytes (take place colours) → bytes ≡ colours_bytes colours
spelled-all bytes colours place whole count last done =
    sym (take_all (2 * place) bytes (omega arith))
    ∙ done
    ∙ ap colours_bytes (take_all place colours (omega arith))

-- how many lines there are
pub lines_in-count : (count : ℕ) (colours : List ℕ) → length (lines_in count colours) ≡ count
unfolding lines_in
lines_in-count zero colours = refl
lines_in-count (suc count) colours =
    let line = colours_bytes (take 240 (drop (240 * count) colours)) in
    omega (arith, length-append (lines_in count colours) (line ∷ []), lines_in-count count colours)

pub no-lines : (lines : List (List ℕ)) (colours : List ℕ) → lines ≡ [] → lines ≡ lines_in 0 colours
unfolding lines_in
no-lines lines colours none = none

-- one line more
pub lines_in-more : (count : ℕ) (lines new : List (List ℕ)) (line colours : List ℕ) → lines ≡ lines_in count colours
    → new ≡ lines ++ colours_bytes line ∷ [] → line ≡ take 240 (drop (240 * count) colours)
    → new ≡ lines_in (count + 1) colours
unfolding lines_in
lines_in-more count lines new line colours so_far more here =
    let next : suc count ≡ count + 1 = omega arith in
    more
    ∙ ap (λ (front : List (List ℕ)). front ++ colours_bytes line ∷ []) so_far
    ∙ ap (λ (one : List ℕ). lines_in count colours ++ colours_bytes one ∷ []) here
    ∙ ap (λ (n : ℕ). lines_in n colours) next

-- no line
pub none-drawn : AreLines [] (record { lines = []; has_gap = false })
unfolding are_numbered
none-drawn = record { gap = refl; lines = λ _. refl }

-- whether lines are numbered with one line more
numbered-more : (from : ℕ) (drawn : List (ℕ × List ℕ)) (line : ℕ × List ℕ)
    → are_numbered from (drawn ++ line ∷ []) ≡ (are_numbered from drawn && (line.0 == from + length drawn))
unfolding are_numbered
numbered-more from [] line = grind (arith, nat_tests)
numbered-more from (first ∷ drawn) line =
    let rest = numbered-more (from + 1) drawn line in
    let count : from + 1 + length drawn ≡ from + length (first ∷ drawn) = omega arith in
    by_first (first.0 == from) (are_numbered (from + 1) (drawn ++ line ∷ [])) (are_numbered (from + 1) drawn)
    (line.0 == from + length (first ∷ drawn))
    (rest ∙ ap (λ (n : ℕ). are_numbered (from + 1) drawn && (line.0 == n)) count) where
      by_first : (a b c d : Bool) → b ≡ (c && d) → (a && b) ≡ ((a && c) && d)
      by_first true b c d h = h
      by_first false b c d h = refl

-- with a gap no line more is kept
pub gap-stays : (drawn : List (ℕ × List ℕ)) (line : ℕ × List ℕ) (d : DrawnLines) → d.has_gap ≡ true → AreLines drawn d
    → AreLines (drawn ++ line ∷ []) d
gap-stays drawn line d gap h = by_test (are_numbered 0 drawn) refl where
  by_test : (b : Bool) → are_numbered 0 drawn ≡ b → AreLines (drawn ++ line ∷ []) d
  by_test true e = absurd (cc (h.gap, gap, e))
  by_test false e =
      let no : are_numbered 0 (drawn ++ line ∷ []) ≡ false = numbered-more 0 drawn line
      ∙ ap (λ (b : Bool). b && (line.0 == 0 + length drawn)) e in
      record {
        gap = gap ∙ ap not (sym no);
        lines = λ (yes : are_numbered 0 (drawn ++ line ∷ []) ≡ true). absurd (cc (yes, no));
      }

-- the lines so far are numbered where there is no gap
so_far : (drawn : List (ℕ × List ℕ)) (d : DrawnLines) → d.has_gap ≡ false → AreLines drawn d
    → are_numbered 0 drawn ≡ true
so_far drawn d none h = by_test (are_numbered 0 drawn) refl where
  by_test : (b : Bool) → are_numbered 0 drawn ≡ b → are_numbered 0 drawn ≡ true
  by_test true e = e
  by_test false e = absurd (cc (h.gap, none, e))

-- a line of another number
pub gap-begins : (drawn : List (ℕ × List ℕ)) (line : ℕ × List ℕ) (d : DrawnLines) → d.has_gap ≡ false
    → line.0 ≢ length d.lines
    → AreLines drawn d → AreLines (drawn ++ line ∷ []) (record { lines = d.lines; has_gap = true })
gap-begins drawn line d none other h =
    let yes = so_far drawn d none h in
    let count : length d.lines ≡ length drawn = ap length (h.lines yes) ∙ length-map drawn bytes_of_line in
    let apart : (line.0 == 0 + length drawn) ≡ false = grind (arith, nat_tests) in
    let no : are_numbered 0 (drawn ++ line ∷ []) ≡ false =
    numbered-more 0 drawn line ∙ ap (λ (b : Bool). b && (line.0 == 0 + length drawn)) yes ∙ apart in
    record {
      gap = ap not (sym no);
      lines = λ (all : are_numbered 0 (drawn ++ line ∷ []) ≡ true). absurd (cc (all, no));
    }

-- the next line
pub goes-on : (drawn : List (ℕ × List ℕ)) (line : ℕ × List ℕ) (d : DrawnLines) (lines : List (List ℕ))
    → d.has_gap ≡ false
    → line.0 ≡ length d.lines → lines ≡ d.lines ++ bytes_of_line line ∷ [] → AreLines drawn d
    → AreLines (drawn ++ line ∷ []) (record { lines = lines; has_gap = false })
goes-on drawn line d lines none next more h =
    let yes = so_far drawn d none h in
    let count : length d.lines ≡ length drawn = ap length (h.lines yes) ∙ length-map drawn bytes_of_line in
    let same : (line.0 == 0 + length drawn) ≡ true = grind (arith, nat_tests) in
    let all : are_numbered 0 (drawn ++ line ∷ []) ≡ true =
    numbered-more 0 drawn line ∙ ap (λ (b : Bool). b && (line.0 == 0 + length drawn)) yes ∙ same in
    record {
      gap = ap not (sym all);
      lines = λ _.
          more ∙ ap (λ (front : List (List ℕ)). front ++ bytes_of_line line ∷ []) (h.lines yes)
          ∙ sym (map-append bytes_of_line drawn (line ∷ []));
    }
