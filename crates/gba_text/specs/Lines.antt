use Rattle.std.specs.Prelude.{ℕ, Bool, false, ◌&&◌, ◌==◌, List, [], ◌∷◌, if◌then◌else◌}

-- whether the bytes begin with a line feed
abbrev pub begins_with_feed : List ℕ → Bool
begins_with_feed [] = false
begins_with_feed (b ∷ _) = b == 10

-- a byte before the first of the pieces
abbrev pub onto_front : ℕ → List (List ℕ) → List (List ℕ)
onto_front b [] = (b ∷ []) ∷ []
onto_front b (piece ∷ pieces) = (b ∷ piece) ∷ pieces

-- The lines of a file, without their ends. A line is ended by a line feed (10), or by a carriage return (13) and a line
-- feed, or by the end of the file. A carriage return that no line feed follows is a byte of its line.
unfoldable pub lines : List ℕ → List (List ℕ)
lines [] = []
lines (b ∷ bs) =
    if b == 10 then [] ∷ lines bs
    else if b == 13 && begins_with_feed bs then lines bs
    else onto_front b (lines bs)
