use Rattle.std.specs.Prelude.{ℕ, ◌≡◌, ◌≤◌, [], ◌∷◌}
use Rattle.atomic_table.specs.Seated.{TableId}
use Rattle.link_table.specs.declared.key.Key.{Key}
use Rattle.link_lane.specs.Following.{LaneState}

-- a lane of this table, which may advance to this clock
pub record MayGo {N : Type 0} (table : TableId) (until : ℕ) (lane : LaneState N) : Type 0 where
  pub table_is : lane.seat.table ≡ table
  pub limit : (key : Key N) → lane.seat.key ≡ key ∷ [] → until ≤ key.limit
