use Rattle.std.specs.Prelude.{ℕ, ◌≡◌, ◌<◌, ◌≤◌, ◌^◌, ◌++◌, List, [], ◌∷◌, Some, length, take, slice_get}
use Rattle.link_node.specs.declared.signal.Incoming.{Incoming}
use Rattle.link_node.specs.declared.signal.Signal.{Signal}
use Rattle.link_order.specs.NodeKind.{NodeKind}
use Rattle.link_order.specs.Order.{from}
use Rattle.link_order.specs.Due.{waiting}
use Rattle.link_order.specs.Cut.{Cut, hop, count, plain_cut, IsSound, IsCable}
use Rattle.link_order.specs.GlobalOrder.{trace}
use Rattle.link_order.specs.Way.{console_after}
use Rattle.link_script.specs.Script.{Script, told, IsSoundScript}
use Rattle.link_rule.specs.declared.view.Peer.{Peer}
use Rattle.link_rule.specs.Rule.{peer_at}
use Rattle.link_table.specs.declared.key.Key.{Key}
use Rattle.link_table.specs.Text.{script_of}
use Rattle.link_table.specs.Seated.{SeatState}
use Rattle.link_table.specs.Opening.{opening_seat}

-- this project's profile: a console with its seat, in its place of the trace

-- what contracts see of a lane: its node, its seat, and the signals that wait for it
pub record LaneState (N : Type 0) : Type 0 where
  pub node : N
  pub seat : SeatState (Key N)
  pub waits : List Incoming

-- the cut that a table was made from, its nodes as plain records
abbrev pub key_cut : {N C : Type 0} → (N → C) → Key N → Cut C
key_cut plain key = plain_cut plain key.cut.value

-- the signals of player j that a player has: those of the cut, and as many of its later ones as were fetched
abbrev pub known_of : {C : Type 0} → Cut C → Script → List Peer → ℕ → List Signal
known_of cut s peers j = from j cut.sent ++ take (peer_at peers j).taken (told s j)

-- the node is its player's console of the trace after as many steps as the seat has counted, and exactly those signals
-- of the cut and of what was fetched wait that the node can still take
pub record Follows {N C : Type 0} (kind : NodeKind C) (plain : N → C) (key : Key N) (lane : LaneState N) : Type 0 where
  pub key_is : lane.seat.key ≡ key ∷ []
  pub player : lane.seat.player < count (key_cut plain key)
  pub players_is : lane.seat.players ≡ count (key_cut plain key)
  pub stands : console_after kind (key_cut plain key) (trace kind (key_cut plain key) key.limit) lane.seat.player
      lane.seat.made.steps ≡ Some (plain lane.node)
  pub unwritten : lane.seat.made.written ≡ 0
  pub waits_are : lane.waits ≡ waiting (hop (key_cut plain key))
      (known_of (key_cut plain key) (script_of kind plain key) lane.seat.made.peers) lane.seat.player
      (kind.was (plain lane.node)) (count (key_cut plain key))

-- a node, its seat as a new table gave it, and what of the cut's signals the node can still take
pub record Opens {N C : Type 0} (kind : NodeKind C) (plain : N → C) (bound : N → ℕ) (node : N)
    (seat : SeatState (Key N)) (opening : List Incoming) : Type 0
  where
    pub key : Key N
    pub seat_is : seat ≡ opening_seat kind plain key seat.table seat.player (length key.cut.value.consoles)
    pub node_is : slice_get key.cut.value.consoles seat.player ≡ Some node
    pub cable : IsCable (key_cut plain key)
    pub sound : IsSound kind (key_cut plain key)
    pub script : IsSoundScript (script_of kind plain key)
    pub limit : key.limit ≤ bound node
    pub small_limit : key.limit ≤ 2 ^ 39
    pub opening_is : opening ≡ waiting (hop (key_cut plain key)) (λ j. from j key.cut.value.sent) seat.player
        (kind.was (plain node)) (count (key_cut plain key))
