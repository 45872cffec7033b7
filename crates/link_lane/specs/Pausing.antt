use Rattle.std.specs.Prelude.{ℕ, ◌≡◌, ◌≢◌, ◌⊎◌, ◌+◌, ◌<◌, ◌≤◌}
use Rattle.link_script.specs.Script.{Script, now}
use Rattle.link_rule.specs.declared.view.Peer.{Peer}
use Rattle.link_rule.specs.Rule.{peer_at}
use Rattle.link_table.specs.Seated.{with_made}
use Rattle.link_lane.specs.declared.lane.Horizon.{Horizon}
use Rattle.link_lane.specs.Following.{LaneState}

-- this project's profile: when a lane steps, and what it answers when it stops

-- what was last known of player j
abbrev pub peer_of : {N : Type 0} → LaneState N → ℕ → Peer
peer_of lane j = peer_at lane.seat.made.peers j

-- the lane's clock is below each peer's `base` and the delay from there
abbrev pub IsAhead : {N : Type 0} → (ℕ → ℕ → ℕ) → LaneState N → ℕ → Type 0
IsAhead between lane clock =
    (j : ℕ) → j < lane.seat.players → j ≢ lane.seat.player
    → clock < (peer_of lane j).base + between j lane.seat.player

-- each clock below `end` is
abbrev pub IsAheadTo : {N : Type 0} → (ℕ → ℕ → ℕ) → LaneState N → ℕ → Type 0
IsAheadTo between lane end =
    (j : ℕ) → j < lane.seat.players → j ≢ lane.seat.player
    → end ≤ (peer_of lane j).base + between j lane.seat.player

-- so many looks more, and all is known to the clock seen last
pub record IsCaught (looks : ℕ) (p q : Peer) : Type 0 where
  pub base_up : p.base ≤ q.base
  pub base_is : q.base ≡ q.clock
  pub looked : p.looks + looks ≤ q.looks

-- a lane that has heard of its peers: node and steps are the same
pub record IsStill {N : Type 0} (old new : LaneState N) : Type 0 where
  pub node_is : new.node ≡ old.node
  pub seat_is : new.seat ≡ with_made old.seat new.seat.made
  pub steps_are : new.seat.made.steps ≡ old.seat.made.steps

-- the same, while the signals of one peer are fetched: so many of those that the look has counted
pub record IsFetching {N : Type 0} (old new : LaneState N) (peer clock count taken : ℕ) : Type 0 where
  pub still : IsStill old new
  pub others : (j : ℕ) → j ≢ peer → peer_of new j ≡ peer_of old j
  pub clock_is : (peer_of new peer).clock ≡ clock
  pub count_is : (peer_of new peer).count ≡ count
  pub taken_is : (peer_of new peer).taken ≡ taken
  pub looks_are : (peer_of new peer).looks ≡ (peer_of old peer).looks + 1
  pub base_up : (peer_of old peer).base ≤ (peer_of new peer).base
  pub base_is : taken ≡ count → (peer_of new peer).base ≡ clock

-- the same, after a look at one peer, unless it is the lane's own player
pub record HasHeardOf {N : Type 0} (old new : LaneState N) (peer : ℕ) : Type 0 where
  pub still : IsStill old new
  pub caught : peer ≢ old.seat.player → IsCaught 1 (peer_of old peer) (peer_of new peer)
  pub others : (j : ℕ) → j ≢ peer → peer_of new j ≡ peer_of old j

-- the same, after so many looks at each peer below `some`, and none at the others
pub record HasHeard {N : Type 0} (looks some : ℕ) (old new : LaneState N) : Type 0 where
  pub still : IsStill old new
  pub caught : (j : ℕ) → j < some → j ≢ old.seat.player → IsCaught looks (peer_of old j) (peer_of new j)
  pub others : (j : ℕ) → some ≤ j → peer_of new j ≡ peer_of old j

-- the horizon of a peer: the clock that was seen last of it, and the delay from there
pub record IsHorizon {N : Type 0} (between : ℕ → ℕ → ℕ) (lane : LaneState N) (some : ℕ) (horizon : Horizon) : Type 0
  where
    pub below : horizon.peer < some
    pub other : horizon.peer ≢ lane.seat.player
    pub seen_is : (peer_of lane horizon.peer).clock ≡ horizon.seen
    pub end_is : horizon.end ≡ horizon.seen + between horizon.peer lane.seat.player

-- the nearer of a horizon and that of one peer more
pub record IsNearer {N : Type 0} (between : ℕ → ℕ → ℕ) (lane : LaneState N) (peer : ℕ) (old new : Horizon) : Type 0
  where
    pub lower : new.end ≤ old.end
    pub within : peer ≢ lane.seat.player → new.end ≤ (peer_of lane peer).base + between peer lane.seat.player
    pub one_of : (new ≡ old) ⊎ ((new.peer ≡ peer) × IsHorizon between lane (peer + 1) new)

-- the nearest horizon of the peers below `some`, or none
pub record IsNearest {N : Type 0} (between : ℕ → ℕ → ℕ) (lane : LaneState N) (some : ℕ) (horizon : Horizon) : Type 0
  where
    pub within : (j : ℕ) → j < some → j ≢ lane.seat.player
        → horizon.end ≤ (peer_of lane j).base + between j lane.seat.player
    pub one_of : (horizon.end ≡ 18446744073709551615) ⊎ IsHorizon between lane some horizon

-- each step of player i from `first` on, up to `last`, began below `until`
abbrev pub BeginsBelow : Script → ℕ → ℕ → ℕ → ℕ → Type 0
BeginsBelow s until i first last = (k : ℕ) → first ≤ k → k < last → now s i k < until

-- a lane that waits at this horizon, after so many looks at its peer
pub record IsHeldUp {N : Type 0} (between : ℕ → ℕ → ℕ) (polls clock : ℕ) (old new : LaneState N) (horizon : Horizon)
    : Type 0
  where
    pub horizon_is : IsHorizon between new new.seat.players horizon
    pub late : horizon.end ≤ clock
    pub caught : IsCaught polls (peer_of old horizon.peer) (peer_of new horizon.peer)

-- a lane that waits for this peer: it was looked at at least `polls` times since the lane's last step, in this call,
-- and the last look saw this clock, from which a signal may still arrive at or before the lane's clock
pub record IsBlocked {N : Type 0} (between : ℕ → ℕ → ℕ) (polls clock : ℕ) (old new : LaneState N) (peer seen : ℕ)
    : Type 0
  where
    pub below : peer < new.seat.players
    pub other : peer ≢ new.seat.player
    pub seen_is : (peer_of new peer).clock ≡ seen
    pub late : seen + between peer new.seat.player ≤ clock
    pub polled : polls ≤ (peer_of new peer).looks
    pub polled_here : new.seat.made.steps ≡ old.seat.made.steps
        → (peer_of old peer).looks + polls ≤ (peer_of new peer).looks
    pub no_earlier : new.seat.made.steps ≡ old.seat.made.steps → (peer_of old peer).base ≤ seen
