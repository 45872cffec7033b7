-- The drawn lines of the present frame, which are kept as bytes.
use Rattle.std.specs.Prelude.{◌≡◌, ℕ, zero, suc, ◌+◌, ◌*◌, ◌/◌, ◌==◌, ◌&&◌, Bool, true, false, not, List, [], ◌∷◌, ◌++◌, length, map, take, drop}
use Rattle.gba_screen.specs.Lines.{colours_bytes}

-- the lines, and whether one had another number than that of those before it
pub record DrawnLines : Type 0 where
  pub lines : List (List ℕ)
  pub has_gap : Bool

-- whether numbered lines have the numbers from this one on
unfoldable pub are_numbered : ℕ → List (ℕ × List ℕ) → Bool
are_numbered from [] = true
are_numbered from (line ∷ lines) = (line.0 == from) && are_numbered (from + 1) lines

-- the bytes of a numbered line's colours
abbrev pub bytes_of_line : ℕ × List ℕ → List ℕ
bytes_of_line line = colours_bytes line.1

-- They are these lines, if their numbers are 0, 1 and so on; and whether they are is told in any case.
pub record AreLines (drawn : List (ℕ × List ℕ)) (d : DrawnLines) : Type 0 where
  pub gap : d.has_gap ≡ not (are_numbered 0 drawn)
  pub lines : are_numbered 0 drawn ≡ true → d.lines ≡ map bytes_of_line drawn

-- the bytes of so many lines whose colours stand one behind another, 240 of each
unfoldable pub lines_in : ℕ → List ℕ → List (List ℕ)
lines_in zero colours = []
lines_in (suc count) colours = lines_in count colours ++ colours_bytes (take 240 (drop (240 * count) colours)) ∷ []

-- all of them, from the top down
abbrev pub lines_of : List ℕ → DrawnLines
lines_of colours = record { lines = lines_in (length colours / 240) colours; has_gap = false }
