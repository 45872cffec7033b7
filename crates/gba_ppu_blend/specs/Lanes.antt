use Rattle.std.specs.Prelude.{◌≡◌, ℕ, ◌<◌, List, length, slice_index}

-- the eight lanes of a vector, by index
pub record HasLanes (v : List ℕ) (lane : ℕ → ℕ) : Type 0 where
  pub count : length v ≡ 8
  pub lanes : (i : ℕ) → i < 8 → slice_index v i ≡ lane i
