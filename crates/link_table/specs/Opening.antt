use Rattle.std.specs.Prelude.{ℕ, ◌≡◌, ◌<◌, ◌≤◌, ◌^◌, List, [], ◌∷◌, Some, length, map, slice_get, slice_index}
use Rattle.atomic_table.specs.Seated.{TableId}
use Rattle.atomic_table.specs.Table.{Me}
use Rattle.link_node.specs.declared.delays.Delays.{Delays}
use Rattle.link_node.specs.Delays.{AreDelays}
use Rattle.link_order.specs.NodeKind.{NodeKind}
use Rattle.link_order.specs.Cut.{Cut}
use Rattle.link_script.specs.Script.{IsSoundScript}
use Rattle.link_rule.specs.declared.view.View.{View}
use Rattle.link_rule.specs.Words.{clock_place, word_count}
use Rattle.link_rule.specs.Rule.{opening_progress, opening_records}
use Rattle.link_table.specs.declared.key.Key.{Key}
use Rattle.link_table.specs.Text.{script_of}
use Rattle.link_table.specs.Seated.{SeatState}

-- this project's profile: a table at its opening

-- the least of some numbers
pub record IsLeast (numbers : List ℕ) (least : ℕ) : Type 0 where
  pub none_below : (i : ℕ) → i < length numbers → least ≤ slice_index numbers i
  pub place : ℕ
  pub within : place < length numbers
  pub one_of : slice_index numbers place ≡ least

-- words with the first `count` of these clocks in their places, and these clocks are small
pub record HasClocks (clocks words : List ℕ) (count : ℕ) : Type 0 where
  pub wide : length words ≡ word_count
  pub clock_is : (i : ℕ) → i < count → slice_index words (clock_place i) ≡ slice_index clocks i
  pub small : (i : ℕ) → i < count → slice_index clocks i < 2 ^ 40

-- player i's seat at the opening
abbrev pub opening_seat : {N C : Type 0} → NodeKind C → (N → C) → Key N → TableId → ℕ → ℕ → SeatState (Key N)
opening_seat kind plain key table i players = record {
  table = table;
  key = key ∷ [];
  player = i;
  players = players;
  made = opening_progress (script_of kind plain key);
}

-- a seat of each player below `count`, in their order
pub record AreDealt {N C : Type 0} (kind : NodeKind C) (plain : N → C) (key : Key N) (table : TableId)
    (players count : ℕ) (seats : List (SeatState (Key N))) : Type 0
  where
    pub count_is : length seats ≡ count
    pub each : (i : ℕ) (seat : SeatState (Key N)) → slice_get seats i ≡ Some seat
        → seat ≡ opening_seat kind plain key table i players

-- what the seats of a table have in common
pub record IsCommon {N C : Type 0} (kind : NodeKind C) (plain : N → C) (key : Key N) (players : ℕ)
    (delays : Delays) : Type 0
  where
    pub players_is : players ≡ (script_of kind plain key).players
    pub sound : IsSoundScript (script_of kind plain key)
    pub delays_are : delays ≡ key.cut.value.delays
    pub within : AreDelays delays

-- a place at the table that plays player `first` and all after it, none of whom has stepped
pub record IsUndealt {N C : Type 0} (kind : NodeKind C) (plain : N → C) (key : Key N)
    (me : Me (Unit {0}) (View (Key N))) (first left : ℕ) : Type 0
  where
    pub me_is : me ≡ (
      record {
        key = key ∷ [];
        first = first;
        records = opening_records (script_of kind plain key) left;
      },
      [],
    )

-- a new table: its key has the cut and the least limit of the cut's nodes, its script is sound, and there is a seat for
-- each console
pub record Begins {N C : Type 0} (kind : NodeKind C) (plain : N → C) (bound : N → ℕ) (cut : Cut N) (table : TableId)
    (seats : List (SeatState (Key N))) : Type 0
  where
    pub key : Key N
    pub cut_is : key.cut.value ≡ cut
    pub limit_is : IsLeast (map bound cut.consoles) key.limit
    pub small_limit : key.limit ≤ 2 ^ 39
    pub sound : IsSoundScript (script_of kind plain key)
    pub dealt : AreDealt kind plain key table (length cut.consoles) (length cut.consoles) seats
