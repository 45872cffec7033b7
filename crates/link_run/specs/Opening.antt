use Rattle.std.specs.Prelude.{ℕ, ◌≡◌, ◌≤◌, ◌^◌, List, Some, length, slice_get}
use Rattle.link_order.specs.declared.sent.Sent.{Sent}
use Rattle.link_order.specs.NodeKind.{NodeKind}
use Rattle.link_node.specs.declared.delays.Delays.{Delays}
use Rattle.link_order.specs.Cut.{IsSound, IsCable}
use Rattle.link_script.specs.Script.{IsSoundScript}
use Rattle.link_table.specs.declared.key.Key.{Key}
use Rattle.link_table.specs.Text.{script_of}
use Rattle.link_table.specs.Seated.{SeatState}
use Rattle.link_table.specs.Opening.{opening_seat}
use Rattle.link_lane.specs.Following.{key_cut}

-- this project's profile: nodes and seats from which lanes are made; only private functions cite these

-- a node with its seat as a new table gave it, and the signals and the delays of the table's cut
pub record CanOpen {N C : Type 0} (kind : NodeKind C) (plain : N → C) (bound : N → ℕ) (node : N)
    (seat : SeatState (Key N)) (sent : List Sent) (delays : Delays) : Type 0
  where
    pub key : Key N
    pub seat_is : seat ≡ opening_seat kind plain key seat.table seat.player (length key.cut.value.consoles)
    pub node_is : slice_get key.cut.value.consoles seat.player ≡ Some node
    pub cable : IsCable (key_cut plain key)
    pub sound : IsSound kind (key_cut plain key)
    pub script : IsSoundScript (script_of kind plain key)
    pub limit : key.limit ≤ bound node
    pub small_limit : key.limit ≤ 2 ^ 39
    pub sent_is : sent ≡ key.cut.value.sent
    pub delays_are : delays ≡ key.cut.value.delays

-- so many seats as nodes, each the one of its node
pub record CanOpenAll {N C : Type 0} (kind : NodeKind C) (plain : N → C) (bound : N → ℕ) (nodes : List N)
    (seats : List (SeatState (Key N))) (sent : List Sent) (delays : Delays) : Type 0
  where
    pub same : length seats ≡ length nodes
    pub each : (i : ℕ) (node : N) (seat : SeatState (Key N)) → slice_get nodes i ≡ Some node
        → slice_get seats i ≡ Some seat → CanOpen kind plain bound node seat sent delays
