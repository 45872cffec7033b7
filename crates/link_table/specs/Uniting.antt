use Rattle.std.specs.Prelude.{ℕ, ◌≡◌, ◌+◌, ◌*◌, ◌<◌, List, [], ◌∷◌, Some, length, map, slice_get, slice_index}
use Rattle.atomic_table.specs.Seated.{TableId}
use Rattle.atomic_table.specs.Table.{Me}
use Rattle.link_order.specs.NodeKind.{NodeKind}
use Rattle.link_script.specs.Script.{IsSoundScript}
use Rattle.link_rule.specs.declared.view.Progress.{Progress}
use Rattle.link_rule.specs.declared.view.View.{View}
use Rattle.link_rule.specs.Rule.{peer_at, seat_of}
use Rattle.link_table.specs.declared.key.Key.{Key}
use Rattle.link_table.specs.Text.{script_of}
use Rattle.link_table.specs.Seated.{SeatState}

-- this project's profile: seats that are joined one after another

-- a seat's place at the table
pub record IsPlaceOf {N C : Type 0} (kind : NodeKind C) (plain : N → C) (seat : SeatState (Key N)) (table : TableId)
    (me : Me (Unit {0}) (View (Key N))) : Type 0
  where
    pub key : Key N
    pub key_is : seat.key ≡ key ∷ []
    pub table_is : table ≡ seat.table
    pub me_is : me ≡ (seat_of key seat.player seat.made, [])
    pub players_is : seat.players ≡ (script_of kind plain key).players
    pub sound : IsSoundScript (script_of kind plain key)

-- seats that may be joined: all of this table, each player's once and in their order
pub record MayMeet {K : Type 0} (table : TableId) (seats : List (SeatState K)) : Type 0 where
  pub some_seat : 0 < length seats
  pub each : (i : ℕ) (seat : SeatState K) → slice_get seats i ≡ Some seat
      → (seat.table ≡ table) × (seat.player ≡ i) × (seat.players ≡ length seats)

abbrev pub made_of : {K : Type 0} → SeatState K → Progress
made_of seat = seat.made

-- where the number of player i's signals that it has fetched of player j stands
abbrev pub pair_place : ℕ → ℕ → ℕ
pair_place i j = 4 * i + j

-- how many signals of each player each of the first `count` seats has fetched
abbrev pub AreTaken : {K : Type 0} → List (SeatState K) → List ℕ → ℕ → Type 0
AreTaken {K} seats taken count =
    (i j : ℕ) (seat : SeatState K) → slice_get seats i ≡ Some seat → i < count → j < 4
    → slice_index taken (pair_place i j) ≡ (peer_at seat.made.peers j).taken

-- the place of all players
pub record IsUnited {N C : Type 0} (kind : NodeKind C) (plain : N → C) (shared : TableId)
    (seats : List (SeatState (Key N))) (table : TableId) (me : Me (Unit {0}) (View (Key N))) : Type 0
  where
    pub key : Key N
    pub key_is : (seat : SeatState (Key N)) → slice_get seats 0 ≡ Some seat → seat.key ≡ key ∷ []
    pub table_is : table ≡ shared
    pub me_is : me ≡ (record { key = key ∷ []; first = 0; records = map made_of seats }, [])
    pub count_is : length seats ≡ (script_of kind plain key).players
    pub sound : IsSoundScript (script_of kind plain key)
