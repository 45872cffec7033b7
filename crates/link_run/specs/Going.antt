use Rattle.std.specs.Prelude.{ℕ, ◌≡◌, ◌<◌, ◌≤◌, List, [], ◌∷◌}
use Rattle.atomic_table.specs.Seated.{TableId}
use Rattle.link_order.specs.NodeKind.{NodeKind}
use Rattle.link_order.specs.Cut.{hop}
use Rattle.link_table.specs.declared.key.Key.{Key}
use Rattle.link_table.specs.Text.{script_of}
use Rattle.link_table.specs.Seated.{with_made}
use Rattle.link_lane.specs.Following.{LaneState}
use Rattle.link_lane.specs.Pausing.{IsAhead, BeginsBelow}

-- this project's profile: lanes that advance; only private functions cite these

-- a lane of this table, which may advance to this clock
pub record MayGo {N : Type 0} (table : TableId) (until : ℕ) (lane : LaneState N) : Type 0 where
  pub table_is : lane.seat.table ≡ table
  pub limit : (key : Key N) → lane.seat.key ≡ key ∷ [] → until ≤ key.limit

-- a lane has gone on: it has made steps that began below `until`, and at least one where it could
pub record Went {N C : Type 0} (kind : NodeKind C) (plain : N → C) (bound : N → ℕ) (until : ℕ)
    (old new : LaneState N) : Type 0
  where
    pub seat_is : new.seat ≡ with_made old.seat new.seat.made
    pub limit_is : bound new.node ≡ bound old.node
    pub grows : old.seat.made.steps ≤ new.seat.made.steps
    pub began : (key : Key N) → old.seat.key ≡ key ∷ []
        → BeginsBelow (script_of kind plain key) until old.seat.player old.seat.made.steps new.seat.made.steps
    pub moves : (key : Key N) → old.seat.key ≡ key ∷ [] → kind.clock (plain old.node) < until
        → IsAhead (hop key.cut.value) old (kind.clock (plain old.node)) → old.seat.made.steps < new.seat.made.steps

-- each of some lanes has gone on
abbrev pub AllWent : {N C : Type 0} → NodeKind C → (N → C) → (N → ℕ) → ℕ → List (LaneState N) → List (LaneState N)
    → Type 0
AllWent kind plain bound until [] [] = Unit {0}
AllWent kind plain bound until [] (y ∷ ys) = ⊥
AllWent kind plain bound until (x ∷ xs) [] = ⊥
AllWent kind plain bound until (x ∷ xs) (y ∷ ys) =
    Went kind plain bound until x y × AllWent kind plain bound until xs ys
