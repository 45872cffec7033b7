use Rattle.std.specs.Prelude.{ℕ, ◌≡◌, ◌≢◌, ◌+◌, ◌<◌, ◌≤◌, ◌^◌, List, [], ◌∷◌, Some, All, length}
use Rattle.std.specs.Prelude.{slice_get, slice_index_or}
use Rattle.link_order.specs.NodeKind.{NodeKind}
use Rattle.link_order.specs.Cut.{Cut, hop, plain_cut, IsSound, IsCable}
use Rattle.link_order.specs.GlobalOrder.{trace}
use Rattle.link_order.specs.Way.{console_after}
use Rattle.link_script.specs.Script.{IsSoundScript}
use Rattle.link_rule.specs.declared.view.Peer.{Peer}
use Rattle.link_rule.specs.Rule.{peer_at}
use Rattle.link_table.specs.declared.key.Key.{Key}
use Rattle.link_table.specs.Text.{script_of}
use Rattle.link_table.specs.Seated.{SeatState}
use Rattle.link_table.specs.Opening.{opening_seat}
use Rattle.atomic_table.specs.Seated.{TableId}
use Rattle.link_table_tests.specs.declared.console.Heard.{Heard}
use Rattle.link_table_tests.specs.declared.ticker.Ticker.{Ticker}
use Rattle.link_table_tests.specs.Ticking.{Ticked, ticked_next}

-- the node as a kind of console
abbrev pub ticked_kind : NodeKind Ticked
ticked_kind = record { clock = λ r. r.clock; was = λ r. r.was; next = ticked_next }

abbrev pub ticked_plain : Ticker → Ticked
ticked_plain t = record { first = t.first; pace = t.pace; gap = t.gap; clock = t.clock; was = t.was }

abbrev pub text_cut : Key Ticker → Cut Ticked
text_cut key = plain_cut ticked_plain key.cut.value

-- what tests see of a console
pub record ConsoleState : Type 0 where
  pub table : TableId
  pub player : ℕ
  pub players : ℕ

abbrev pub console_state : SeatState (Key Ticker) → ConsoleState
console_state seat = record { table = seat.table; player = seat.player; players = seat.players }

-- what a console knows of player j
abbrev pub heard_at : List Heard → ℕ → Heard
heard_at heard j = slice_index_or heard j (record { seen = 0; taken = 0; count = 0 })

-- which is what its seat knows of that peer; a clock of the table has 40 bits
pub record IsHeard (heard : Heard) (peer : Peer) : Type 0 where
  pub seen_is : heard.seen ≤ peer.base
  pub small : heard.seen < 2 ^ 40
  pub based : peer.base ≤ peer.clock
  pub taken_is : heard.taken ≡ peer.taken
  pub count_is : heard.count ≡ peer.count

-- one of a table's consoles, in its place of the trace, with what it has heard of each other one
pub record IsFollowing (node : Ticker) (seat : SeatState (Key Ticker)) (heard : List Heard) : Type 0 where
  pub key : Key Ticker
  pub key_is : seat.key ≡ key ∷ []
  pub cable : IsCable (text_cut key)
  pub sound : IsSound ticked_kind (text_cut key)
  pub script : IsSoundScript (script_of ticked_kind ticked_plain key)
  pub stands : console_after ticked_kind (text_cut key) (trace ticked_kind (text_cut key) key.limit) seat.player
      seat.made.steps ≡ Some (ticked_plain node)
  pub limit : node.limit ≤ key.limit
  pub unwritten : seat.made.written ≡ 0
  pub players_are : seat.players ≡ length key.cut.value.consoles
  pub four : seat.players ≤ 4
  pub below : seat.player < seat.players
  pub all_peers : length seat.made.peers ≡ 4
  pub all_heard : length heard ≡ 4
  pub peers : (j : ℕ) → j < seat.players → j ≢ seat.player → IsHeard (heard_at heard j) (peer_at seat.made.peers j)

-- a step that begins at this clock is before what was seen of each of the first players and the delay from there
abbrev pub IsBefore : ℕ → SeatState (Key Ticker) → List Heard → ℕ → Type 0
IsBefore clock seat heard count =
    (key : Key Ticker) → seat.key ≡ key ∷ [] → (j : ℕ) → j < count → j ≢ seat.player
    → clock < (heard_at heard j).seen + hop key.cut.value j seat.player

-- it isn't before that of some peer
abbrev pub IsHeld : ℕ → SeatState (Key Ticker) → List Heard → Type 0
IsHeld clock seat heard =
    (key : Key Ticker) → seat.key ≡ key ∷ []
    → (j : ℕ) × (j < seat.players) × (j ≢ seat.player)
    × ((heard_at heard j).seen + hop key.cut.value j seat.player ≤ clock)

-- one of the seats of a new table, and that player's node
pub record IsFresh (node : Ticker) (seat : SeatState (Key Ticker)) : Type 0 where
  pub key : Key Ticker
  pub player : ℕ
  pub seat_is : seat ≡ opening_seat ticked_kind ticked_plain key seat.table player seat.players
  pub players_are : seat.players ≡ length key.cut.value.consoles
  pub below : player < seat.players
  pub node_is : slice_get key.cut.value.consoles player ≡ Some node
  pub cable : IsCable (text_cut key)
  pub sound : IsSound ticked_kind (text_cut key)
  pub script : IsSoundScript (script_of ticked_kind ticked_plain key)
  pub limit : node.limit ≤ key.limit

-- nodes that all have one limit
pub record HaveOneLimit (nodes : List Ticker) : Type 0 where
  pub limit : ℕ
  pub all : All (λ t. t.limit ≡ limit) nodes

-- the first of a table's consoles, by player number
pub record AreSeated (table : TableId) (players count : ℕ) (consoles : List ConsoleState) : Type 0 where
  pub count_is : length consoles ≡ count
  pub each : (i : ℕ) (other : ConsoleState) → i < count
      → slice_index_or consoles i other ≡ record { table = table; player = i; players = players }
