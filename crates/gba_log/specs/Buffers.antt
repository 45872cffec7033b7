-- Room in a buffer, and what is added to it. Only private functions cite these.
use Rattle.std.specs.Prelude.{◌≡◌, ◌≤◌, ℕ, ◌+◌, List, ◌++◌, length, Vec, vec_len, vec_capacity}
use Rattle.std.specs.Global.{Global}

abbrev pub Buffer : Type 0
Buffer = Vec ℕ Global

-- there is room for this piece
abbrev pub HasRoom : Buffer → List ℕ → Type 0
HasRoom into piece = vec_len into + length piece ≤ vec_capacity into

-- this piece was added at the end, and no room was lost
pub record Grew (old new : Buffer) (piece : List ℕ) : Type 0 where
  pub items : new.items ≡ old.items ++ piece
  pub len : vec_len new ≡ vec_len old + length piece
  pub room : vec_capacity old ≤ vec_capacity new
