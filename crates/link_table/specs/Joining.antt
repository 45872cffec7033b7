use Rattle.std.specs.Prelude.{ℕ, ◌≡◌, ◌≢◌, ◌+◌, ◌<◌, ◌≤◌, List, [], ◌∷◌, Option, None, Some, length, map}
use Rattle.std.specs.Prelude.{slice_get, slice_set, slice_index}
use Rattle.atomic_table.specs.Seated.{TableId}
use Rattle.link_node.specs.declared.signal.Signal.{Signal}
use Rattle.link_order.specs.NodeKind.{NodeKind}
use Rattle.link_script.specs.Script.{Script, told, IsSoundScript}
use Rattle.link_rule.specs.declared.view.Progress.{Progress}
use Rattle.link_rule.specs.Rule.{peer_at}
use Rattle.link_rule.specs.Steps.{Met}
use Rattle.link_table.specs.declared.key.Key.{Key}
use Rattle.link_table.specs.declared.joined.Joined.TheInside.{Inside}
use Rattle.link_table.specs.Text.{script_of}
use Rattle.link_table.specs.Seated.{SeatState}
use Rattle.link_table.specs.Uniting.{made_of, pair_place, AreTaken}

-- this project's profile: the seats of all players joined to one

-- the table, its key, the players' progress, and how many signals of each player each one has fetched: that of player i
-- of player j at 4 * i + j
pub record JoinedState (K : Type 0) : Type 0 where
  pub table : TableId
  pub key : List K
  pub made : List Progress
  pub fetched : List ℕ

abbrev pub with_fetched : {K : Type 0} → JoinedState K → List ℕ → JoinedState K
with_fetched joined fetched = record {
  table = joined.table;
  key = joined.key;
  made = joined.made;
  fetched = fetched;
}

abbrev pub joined_state : {N : Type 0} → Inside N → JoinedState (Key N)
joined_state s = record {
  table = s.place.table_id;
  key = s.place.me.0.key;
  made = s.place.me.0.records;
  fetched = s.fetched;
}

-- so many signals of each other player are fetched: not fewer than before the join, and no more than it has sent
pub record AreFetched (made : List Progress) (fetched : List ℕ) : Type 0 where
  pub wide : length fetched ≡ 16
  pub least : (i j : ℕ) (r o : Progress) → slice_get made i ≡ Some r → slice_get made j ≡ Some o → i ≢ j
      → (peer_at r.peers j).taken ≤ slice_index fetched (pair_place i j)
  pub most : (i j : ℕ) (r o : Progress) → slice_get made i ≡ Some r → slice_get made j ≡ Some o → i ≢ j
      → slice_index fetched (pair_place i j) ≤ o.sent

-- what holds of the fields of every joined seat
pub record IsJoined {N C : Type 0} (kind : NodeKind C) (plain : N → C) (s : Inside N) : Type 0 where
  pub key : Key N
  pub made : List Progress
  pub me_is : s.place.me ≡ (record { key = key ∷ []; first = 0; records = made }, [])
  pub sound : IsSoundScript (script_of kind plain key)
  pub met : Met (script_of kind plain key) made
  pub fetched : AreFetched made s.fetched

-- a joined seat has the progress of all players, with what each has fetched
pub record AreMet {K : Type 0} (seats : List (SeatState K)) (joined : JoinedState K) : Type 0 where
  pub made_is : joined.made ≡ map made_of seats
  pub key_is : (seat : SeatState K) → slice_get seats 0 ≡ Some seat → joined.key ≡ seat.key
  pub fetched_is : AreTaken seats joined.fetched (length seats)

-- what is left of player j's signals to player i: the next one, or none where i has fetched all that j sent
abbrev pub IsRest : {K : Type 0} → Script → JoinedState K → JoinedState K → ℕ → ℕ → ℕ → Option Signal → Type 0
IsRest s old new i j sent None = (slice_index old.fetched (pair_place i j) ≡ sent) × (new ≡ old)
IsRest s old new i j sent (Some signal) =
    (slice_index old.fetched (pair_place i j) < sent)
    × (slice_get (told s j) (slice_index old.fetched (pair_place i j)) ≡ Some signal)
    × (new
    ≡ with_fetched old (slice_set old.fetched (pair_place i j) (slice_index old.fetched (pair_place i j) + 1)))

-- the same, where player j's progress is known
abbrev pub Rested : {K : Type 0} → Script → JoinedState K → JoinedState K → ℕ → ℕ → Option Signal → Type 0
Rested s old new i j result = (o : Progress) → slice_get old.made j ≡ Some o → IsRest s old new i j o.sent result
