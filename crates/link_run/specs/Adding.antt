use Rattle.std.specs.Prelude.{ℕ, ◌≡◌, ◌≢◌, ◌+◌, ◌<◌, ◌≤◌, List, Some, length, All, Contains, slice_get, slice_index_or}
use Rattle.std.specs.Prelude.{map, slice_index}
use Rattle.link_node.specs.Due.{FitsWidths}
use Rattle.link_node.specs.declared.signal.Incoming.{Incoming}
use Rattle.link_node.specs.declared.signal.Signal.{Signal}
use Rattle.link_order.specs.declared.sent.Sent.{Sent}
use Rattle.link_order.specs.Order.{IsOrdered}
use Rattle.link_order.specs.NodeKind.{NodeKind}
use Rattle.link_node.specs.declared.delays.Delays.{Delays}
use Rattle.link_node.specs.Delays.{hop_of}
use Rattle.link_script.specs.Script.{Script, told}
use Rattle.link_rule.specs.declared.view.Progress.{Progress}
use Rattle.link_table.specs.declared.key.Key.{Key}
use Rattle.link_table.specs.Text.{script_of}
use Rattle.link_table.specs.Uniting.{pair_place}
use Rattle.link_table.specs.Joining.{JoinedState}

-- this project's profile: signals added to a list of sent signals; only private functions cite these

-- some members of an ordered list, each once and in its order
pub record IsPart (all found : List Sent) : Type 0 where
  pub ordered : IsOrdered found
  pub inside : All (Contains all) found

-- of the signals P at least those of Q were added, and no others: where the old list and P were part of an ordered
-- list, the new one is
pub record Adding (P Q : Sent → Type 0) (old new : List Sent) : Type 0 where
  pub kept : (one : Sent) → Contains old one → Contains new one
  pub there : (one : Sent) → Q one → Contains new one
  pub part : (all : List Sent) → IsOrdered all → ((one : Sent) → P one → Contains all one) → IsPart all old
      → IsPart all new

-- all these signals were added and no others
abbrev pub Adds : (Sent → Type 0) → List Sent → List Sent → Type 0
Adds P = Adding P P

-- these signals may be added: they and the list are part of an ordered list that fits a shell
pub record MayAdd (P : Sent → Type 0) (old : List Sent) : Type 0 where
  pub all : List Sent
  pub ordered : IsOrdered all
  pub few : length all < 16384
  pub part : IsPart all old
  pub inside : (one : Sent) → P one → Contains all one
  pub fit : (one : Sent) → P one → FitsWidths one.signal

-- a signal that waits, as it was sent
abbrev pub as_sent : Incoming → Sent
as_sent one = record { sender = one.sender; signal = one.signal }

-- one of the signals that wait
pub record IsWaiting (waits : List Incoming) (one : Sent) : Type 0 where
  pub place : ℕ
  pub other : Incoming
  pub below : place < length waits
  pub is : one ≡ as_sent (slice_index_or waits place other)

-- one of those that wait in some list
pub record WaitsIn (all : List (List Incoming)) (one : Sent) : Type 0 where
  pub place : ℕ
  pub waits : List Incoming
  pub stands : slice_get all place ≡ Some waits
  pub waiting : IsWaiting waits one

-- how many signals a player has sent
abbrev pub sent_at : List Progress → ℕ → ℕ
sent_at made j = slice_index (map (λ r. r.sent) made) j

-- one of player j's signals from number `first` on, up to `last`, that arrives after the clock `was`
pub record IsRest (s : Script) (j delay first last was : ℕ) (one : Sent) : Type 0 where
  pub number : ℕ
  pub signal : Signal
  pub from_first : first ≤ number
  pub before : number < last
  pub stands : slice_get (told s j) number ≡ Some signal
  pub late : was < signal.clock + delay
  pub is : one ≡ record { sender = j; signal = signal }

-- what player i hasn't fetched of player j's signals, as far as it arrives after the clock `was`
abbrev pub RestOf : {N C : Type 0} → NodeKind C → (N → C) → Key N → JoinedState (Key N) → ℕ → ℕ → Delays → ℕ → Sent
    → Type 0
RestOf kind plain key joined i j delay was one =
    IsRest (script_of kind plain key) j (hop_of delay j i) (slice_index joined.fetched (pair_place i j))
    (sent_at joined.made j) was one

-- the same of the pair of players with this number, where there are these two and they aren't one
pub record PairRest {N C : Type 0} (kind : NodeKind C) (plain : N → C) (key : Key N) (joined : JoinedState (Key N))
    (nodes : List N) (delays : Delays) (pair : ℕ) (one : Sent) : Type 0
  where
    pub own : ℕ
    pub peer : ℕ
    pub pair_is : pair ≡ pair_place own peer
    pub own_below : own < length nodes
    pub peer_below : peer < length nodes
    pub apart : peer ≢ own
    pub rest : RestOf kind plain key joined own peer delays (slice_index (map kind.was (map plain nodes)) own) one

-- the same of all pairs below this number
pub record PairsRest {N C : Type 0} (kind : NodeKind C) (plain : N → C) (key : Key N) (joined : JoinedState (Key N))
    (nodes : List N) (delays : Delays) (some : ℕ) (one : Sent) : Type 0
  where
    pub pair : ℕ
    pub below : pair < some
    pub rest : PairRest kind plain key joined nodes delays pair one
