use Rattle.std.specs.Prelude.{ℕ, ◌≡◌, ◌≤◌, ◌^◌, List, [], ◌∷◌, Some, length, map, slice_get}
use Rattle.atomic_table.specs.Seated.{TableId}
use Rattle.link_node.specs.declared.signal.Incoming.{Incoming}
use Rattle.link_order.specs.NodeKind.{NodeKind}
use Rattle.link_order.specs.Cut.{Cut, plain_cut, live, IsSound, IsCable}
use Rattle.link_laws.specs.Law.{GoesOn}
use Rattle.link_core.specs.Kept.{AllFit}
use Rattle.link_script.specs.Script.{now, IsSoundScript}
use Rattle.link_rule.specs.Rule.{opening_progress}
use Rattle.link_table.specs.declared.key.Key.{Key}
use Rattle.link_table.specs.Text.{script_of}
use Rattle.link_table.specs.Seated.{SeatState}
use Rattle.link_table.specs.Opening.{IsLeast}
use Rattle.link_lane.specs.Following.{LaneState, key_cut}
use Rattle.link_lane.specs.Pausing.{BeginsBelow}

-- this project's profile: the lanes of one table, from its opening to the cut that they make

-- the parts of a lane
abbrev pub node_of : {N : Type 0} → LaneState N → N
node_of lane = lane.node

abbrev pub seat_of_lane : {N : Type 0} → LaneState N → SeatState (Key N)
seat_of_lane lane = lane.seat

abbrev pub waits_of : {N : Type 0} → LaneState N → List Incoming
waits_of lane = lane.waits

-- a lane of this table, the one of player i among so many
pub record IsLaneOf {N : Type 0} (key : Key N) (table : TableId) (players i : ℕ) (lane : LaneState N) : Type 0 where
  pub table_is : lane.seat.table ≡ table
  pub key_is : lane.seat.key ≡ key ∷ []
  pub player_is : lane.seat.player ≡ i
  pub players_are : lane.seat.players ≡ players

-- a lane for each console of the key's cut, by player
pub record AreLanes {N C : Type 0} (kind : NodeKind C) (plain : N → C) (key : Key N) (table : TableId)
    (lanes : List (LaneState N)) : Type 0
  where
    pub cable : IsCable (key_cut plain key)
    pub sound : IsSound kind (key_cut plain key)
    pub fit : AllFit key.cut.value.sent
    pub script : IsSoundScript (script_of kind plain key)
    pub small_limit : key.limit ≤ 2 ^ 39
    pub count_is : length lanes ≡ length key.cut.value.consoles
    pub each : (i : ℕ) (lane : LaneState N) → slice_get lanes i ≡ Some lane → IsLaneOf key table (length lanes) i lane

-- lanes that haven't stepped, of a table for this cut
pub record AreOpened {N C : Type 0} (kind : NodeKind C) (plain : N → C) (bound : N → ℕ) (cut : Cut N) (key : Key N)
    (lanes : List (LaneState N)) : Type 0
  where
    pub cut_is : key.cut.value ≡ cut
    pub limit_is : IsLeast (map bound cut.consoles) key.limit
    pub nodes_are : map node_of lanes ≡ cut.consoles
    pub fresh : (i : ℕ) (lane : LaneState N) → slice_get lanes i ≡ Some lane
        → lane.seat.made ≡ opening_progress (script_of kind plain key)

-- each lane's steps so far all began below `until`
abbrev pub HaveBegun : {N C : Type 0} → NodeKind C → (N → C) → Key N → ℕ → List (LaneState N) → Type 0
HaveBegun {N} kind plain key until lanes =
    (i : ℕ) (lane : LaneState N) → slice_get lanes i ≡ Some lane
    → BeginsBelow (script_of kind plain key) until i 0 lane.seat.made.steps

-- a lane's node stands where its seat says: the clock after so many of its player's steps
pub record Stands {N C : Type 0} (kind : NodeKind C) (plain : N → C) (key : Key N) (i : ℕ) (lane : LaneState N) : Type 0
  where
    pub clock_is : kind.clock (plain lane.node) ≡ now (script_of kind plain key) i lane.seat.made.steps
    pub within : lane.seat.made.steps ≤ length ((script_of kind plain key).line i).moves

-- the cut of some lanes' nodes with all live signals: the live part of a sound cut from which the global order goes on
-- as from the key's cut
pub record Finishes {N C : Type 0} (kind : NodeKind C) (plain : N → C) (key : Key N) (until : ℕ)
    (lanes : List (LaneState N)) (cut : Cut N) : Type 0
  where
    pub whole : Cut C
    pub live_is : plain_cut plain cut ≡ live kind whole
    pub nodes_are : cut.consoles ≡ map node_of lanes
    pub goes_on : GoesOn kind (key_cut plain key) until whole
    pub each : (i : ℕ) (lane : LaneState N) → slice_get lanes i ≡ Some lane → Stands kind plain key i lane
