use Rattle.std.specs.Prelude.{ℕ, ◌≡◌, ◌≢◌, ◌+◌, ◌<◌, ◌≤◌, List, [], ◌∷◌, Some, length, slice_get, slice_index}
use Rattle.std.specs.Prelude.{slice_index_or, take, drop, ◌++◌}
use Rattle.std.proofs.Common.{zero, suc}
use mathlib.Core.Option.{some}
use lib.ListN.{get_elem?}
use Rattle.atomic_table.specs.Table.{State}
use Rattle.link_node.specs.declared.signal.Signal.{Signal}
use Rattle.link_node.specs.Packing.{packed_head, packed_words}
use Rattle.link_script.specs.Script.{Script, now, sent, told, IsSoundScript}
use Rattle.link_rule.specs.declared.view.Peer.{Peer}
use Rattle.link_rule.specs.declared.view.Progress.{Progress}
use Rattle.link_rule.specs.declared.view.View.{View}
use Rattle.link_rule.specs.Words.{clock_place, ring_place, clock_word, word_count, HasSignal}

-- this project's profile: the rule of the shared table, over the script of the cut that it was made from

abbrev pub no_peer : Peer
no_peer = record { clock = 0; count = 0; taken = 0; base = 0; looks = 0 }

-- what was seen of player j
abbrev pub peer_at : List Peer → ℕ → Peer
peer_at peers j = slice_index_or peers j no_peer

-- the signal that player i sends next, after k of its steps
abbrev pub IsNextSignal : Script → ℕ → ℕ → Signal → Type 0
IsNextSignal s i k signal = slice_get (told s i) (sent s i k) ≡ Some signal

-- player i's place in the trace: so many of its steps, and the signals sent in these
pub record IsPlaced (s : Script) (i : ℕ) (r : Progress) : Type 0 where
  pub within : r.steps ≤ length (s.line i).moves
  pub counted : r.sent ≡ sent s i r.steps
  pub all_peers : length r.peers ≡ 4

-- the words of player i: its clock word, its last 4,096 signals (one fewer, for the one that is being written), and the
-- words of its next signal that are written already
pub record Shows (s : Script) (words : List ℕ) (i : ℕ) (r : Progress) : Type 0 where
  pub placed : IsPlaced s i r
  pub clock_is : slice_index words (clock_place i) ≡ clock_word (now s i r.steps) r.sent
  pub ring : (n : ℕ) (signal : Signal) → slice_get (told s i) n ≡ Some signal → n < r.sent → r.sent < n + 4096
      → HasSignal words i n signal
  pub begun : 1 ≤ r.written
      → (signal : Signal) × IsNextSignal s i r.steps signal
      × (slice_index words (ring_place i r.sent) ≡ packed_head signal)
  pub ended : 2 ≤ r.written
      → (signal : Signal) × IsNextSignal s i r.steps signal
      × (slice_index words (ring_place i r.sent + 1) ≡ packed_words signal)

-- what was seen of player j are its clock and its count after some number of its steps
pub record IsSeen (s : Script) (j : ℕ) (p : Peer) (steps : ℕ) : Type 0 where
  pub at : ℕ
  pub past : at ≤ steps
  pub clock_is : p.clock ≡ now s j at
  pub count_is : p.count ≡ sent s j at

-- what player i, after so many steps, knows of player j, by what it has seen of it, while j has made `steps` steps and
-- sent `count` signals: clock and count of some moment that isn't later; all signals older than `base` are fetched; no
-- step of i was begun too early; and few signals aren't fetched
pub record Knows (s : Script) (i j own : ℕ) (p : Peer) (steps count : ℕ) : Type 0 where
  pub seen : IsSeen s j p steps
  pub fetched : p.taken ≤ p.count
  pub based : p.base ≤ p.clock
  pub below : (n : ℕ) (signal : Signal) → slice_get (told s j) n ≡ Some signal → signal.clock < p.base → n < p.taken
  pub near : now s i own < p.base + s.hop j i + 512
  pub allowed : (k : ℕ) → own ≡ suc k → now s i k < p.base + s.hop j i
  pub few : count ≤ p.taken + s.hop i j + s.hop j i + 511

-- the same of two players by their progress
abbrev pub KnowsOf : Script → ℕ → ℕ → Progress → Progress → Type 0
KnowsOf s i j r o = Knows s i j r.steps (peer_at r.peers j) o.steps o.sent

-- record q of a seat's view is that of its player, whom no other seat plays
pub record IsSeated {K : Type 0} (key : K) (made : ℕ → Progress) (owner : ℕ → ℕ) (players id : ℕ) (v : View K) (q : ℕ)
    (r : Progress) : Type 0
  where
    pub key_is : v.key ≡ key ∷ []
    pub player : v.first + q < players
    pub owned : owner (v.first + q) ≡ id
    pub made_is : r ≡ made (v.first + q)

-- the rule, over the words and all views. `made` is the progress of each player, and `owner` the seat that plays it
pub record Ruled {K : Type 0} (text : K → Script) (key : K) (words : List ℕ) (views : List (View K)) : Type 0 where
  pub made : ℕ → Progress
  pub owner : ℕ → ℕ
  pub sound : IsSoundScript (text key)
  pub wide : length words ≡ word_count
  pub shows : (i : ℕ) → i < (text key).players → Shows (text key) words i (made i)
  pub knows : (i j : ℕ) → i < (text key).players → j < (text key).players → i ≢ j
      → KnowsOf (text key) i j (made i) (made j)
  pub seats : (id : ℕ) (v : View K) → get_elem? views id ≡ some v → (q : ℕ) (r : Progress)
      → slice_get v.records q ≡ Some r → IsSeated key made owner (text key).players id v q r

abbrev pub holds : {S K : Type 0} → (K → Script) → K → State S (View K) → Type 0
holds text key state = Ruled text key state.words state.views

-- a seat of one player
abbrev pub seat_of : {K : Type 0} → K → ℕ → Progress → View K
seat_of key i r = record { key = key ∷ []; first = i; records = r ∷ [] }

-- at the opening nobody has stepped, and each has seen the opening clocks
abbrev pub opening_peer : Script → ℕ → Peer
opening_peer s j = record { clock = (s.line j).clock; count = 0; taken = 0; base = (s.line j).clock; looks = 0 }

abbrev pub opening_progress : Script → Progress
opening_progress s = record {
  steps = 0;
  sent = 0;
  written = 0;
  peers = opening_peer s 0 ∷ opening_peer s 1 ∷ opening_peer s 2 ∷ opening_peer s 3 ∷ [];
}

abbrev pub opening_records : Script → ℕ → List Progress
opening_records s zero = []
opening_records s (suc count) = opening_progress s ∷ opening_records s count

-- the view of the first seat, which plays all
abbrev pub first_view : {K : Type 0} → (K → Script) → K → View K
first_view text key = record { key = key ∷ []; first = 0; records = opening_records (text key) (text key).players }

-- words at the opening: each player's clock, and no signals
pub record AreOpening (s : Script) (words : List ℕ) : Type 0 where
  pub wide : length words ≡ word_count
  pub clocks : (i : ℕ) → i < s.players → slice_index words (clock_place i) ≡ (s.line i).clock

-- a seat's first player alone, and the players after it
abbrev pub first_of : {K : Type 0} → View K → View K
first_of v = record { key = v.key; first = v.first; records = take 1 v.records }

abbrev pub others_of : {K : Type 0} → View K → View K
others_of v = record { key = v.key; first = v.first + 1; records = drop 1 v.records }

-- the players of a seat, and after them those of another one, which is then spent
abbrev pub joined : {K : Type 0} → View K → View K → View K
joined v w = record { key = v.key; first = v.first; records = v.records ++ w.records }

abbrev pub spent_view : {K : Type 0} → View K
spent_view = record { key = []; first = 0; records = [] }
