use Rattle.std.specs.Prelude.{ℕ, ◌≡◌, ◌<◌, List, [], ◌∷◌, length, slice_index, if◌then◌else◌}
use Rattle.atomic_table.specs.Seated.{TableId}
use Rattle.link_node.specs.Delays.{AreDelays}
use Rattle.link_order.specs.NodeKind.{NodeKind}
use Rattle.link_script.specs.Script.{IsSoundScript}
use Rattle.link_rule.specs.declared.view.Progress.{Progress}
use Rattle.link_rule.specs.Rule.{peer_at, seat_of, IsPlaced}
use Rattle.link_table.specs.declared.key.Key.{Key}
use Rattle.link_table.specs.declared.seat.Seat.TheInside.{Inside}
use Rattle.link_table.specs.Text.{script_of}

-- this project's profile: what contracts see of a seat

-- the table, its key (always one), the player, how many there are, and how far it has come
pub record SeatState (K : Type 0) : Type 0 where
  pub table : TableId
  pub key : List K
  pub player : ℕ
  pub players : ℕ
  pub made : Progress

abbrev pub with_made : {K : Type 0} → SeatState K → Progress → SeatState K
with_made seat made = record {
  table = seat.table;
  key = seat.key;
  player = seat.player;
  players = seat.players;
  made = made;
}

abbrev pub no_progress : Progress
no_progress = record { steps = 0; sent = 0; written = 0; peers = [] }

-- the progress of a view's first player
abbrev pub first_made : List Progress → Progress
first_made [] = no_progress
first_made (r ∷ rest) = r

-- what contracts see of a seat's fields
abbrev pub state_of : {N : Type 0} → Inside N → SeatState (Key N)
state_of s = record {
  table = s.place.table_id;
  key = s.place.me.0.key;
  player = s.player;
  players = s.players;
  made = first_made s.place.me.0.records;
}

-- what holds of the fields of every seat
pub record IsSeat {N C : Type 0} (kind : NodeKind C) (plain : N → C) (s : Inside N) : Type 0 where
  pub key : Key N
  pub made : Progress
  pub me_is : s.place.me ≡ (seat_of key s.player made, [])
  pub below : s.player < s.players
  pub players_is : s.players ≡ (script_of kind plain key).players
  pub sound : IsSoundScript (script_of kind plain key)
  pub delays_are : s.delays ≡ key.cut.value.delays
  pub within : AreDelays s.delays
  pub placed : IsPlaced (script_of kind plain key) s.player made
  pub sent_is : s.sent ≡ made.sent
  pub written_is : made.written ≡ (if s.written then 2 else 0)
  pub wide : length s.taken ≡ 4
  pub taken_is : (j : ℕ) → j < 4 → slice_index s.taken j ≡ (peer_at made.peers j).taken
