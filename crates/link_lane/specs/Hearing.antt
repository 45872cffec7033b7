use Rattle.std.specs.Prelude.{ℕ, ◌≡◌, ◌≢◌, ◌+◌, ◌<◌, ◌≤◌, ◌^◌, Some, length, slice_get, slice_index}
use Rattle.link_node.specs.declared.signal.Signal.{Signal}
use Rattle.link_order.specs.NodeKind.{NodeKind}
use Rattle.link_order.specs.Cut.{hop, count, IsSound, IsCable}
use Rattle.link_script.specs.Script.{Script, now, sent, told, IsSoundScript}
use Rattle.link_rule.specs.declared.view.Peer.{Peer}
use Rattle.link_rule.specs.Rule.{peer_at}
use Rattle.link_table.specs.declared.key.Key.{Key}
use Rattle.link_table.specs.Text.{script_of}
use Rattle.link_lane.specs.declared.lane.Lane.TheInside.{Inside}
use Rattle.link_lane.specs.Following.{LaneState, key_cut, Follows}

-- this project's profile: what a lane keeps of its peers

-- what player i at this clock has heard of player j: `base` is j's clock after some of its steps, whose signals are all
-- fetched; what was seen last is clock and count after some of its steps; and no signal counted comes later than a step
-- of j that had heard of this clock could send it
pub record Hears (s : Script) (i j clock : ℕ) (p : Peer) : Type 0 where
  pub at : ℕ
  pub base_is : p.base ≡ now s j at
  pub all_taken : sent s j at ≤ p.taken
  pub last : ℕ
  pub clock_is : p.clock ≡ now s j last
  pub count_is : p.count ≡ sent s j last
  pub based : p.base ≤ p.clock
  pub fetched : p.taken ≤ p.count
  pub soon : (n : ℕ) (signal : Signal) → slice_get (told s j) n ≡ Some signal → n < p.count
      → signal.clock < clock + s.hop i j

-- what contracts see of a lane's fields
abbrev pub lane_state : {N : Type 0} → Inside N → LaneState N
lane_state l = record { node = l.node; seat = l.seat; waits = l.inbox.waits }

-- what holds of the fields of every lane
pub record IsLane {N C : Type 0} (kind : NodeKind C) (plain : N → C) (bound : N → ℕ) (l : Inside N) : Type 0 where
  pub key : Key N
  pub cable : IsCable (key_cut plain key)
  pub sound : IsSound kind (key_cut plain key)
  pub script : IsSoundScript (script_of kind plain key)
  pub limit : key.limit ≤ bound l.node
  pub small_limit : key.limit ≤ 2 ^ 39
  pub follows : Follows kind plain key (lane_state l)
  pub begun : kind.was (plain l.node) ≤ kind.clock (plain l.node)
  pub short : kind.clock (plain l.node) ≤ kind.was (plain l.node) + 512
  pub all_peers : length l.seat.made.peers ≡ 4
  pub hears : (j : ℕ) → j < count (key_cut plain key) → j ≢ l.seat.player
      → Hears (script_of kind plain key) l.seat.player j (kind.clock (plain l.node)) (peer_at l.seat.made.peers j)
  pub wide : length l.taken ≡ 4
  pub taken_is : (j : ℕ) → j < 4 → slice_index l.taken j ≡ (peer_at l.seat.made.peers j).taken
  pub horizon_is : (j : ℕ) → j < count (key_cut plain key) → j ≢ l.seat.player
      → l.horizon ≤ (peer_at l.seat.made.peers j).base + hop (key_cut plain key) j l.seat.player
