use Rattle.std.specs.Prelude.{ℕ, ◌≡◌, ◌+◌, ◌<◌, nat_lt, if◌then◌else◌, List, length, slice_index, slice_index_or}
use Rattle.link_core.specs.declared.horizon.Seen.{Seen}

-- this project's profile: what a console has seen, as a list of its peers

-- the player that stands at this place among the peers of player i
abbrev pub peer_at : ℕ → ℕ → ℕ
peer_at i place = if nat_lt place i then place else place + 1

-- the peers' clocks that player i knows, in the order of the players, without its own
abbrev pub AreSeen : ℕ → (ℕ → ℕ) → List Seen → Type 0
AreSeen i known seen =
    (place : ℕ) (d : Seen) → place < length seen → (slice_index_or seen place d).clock ≡ known (peer_at i place)

-- the delays from the peers to player i, in the same order
abbrev pub AreHops : ℕ → (ℕ → ℕ → ℕ) → List ℕ → Type 0
AreHops i between delays =
    (place : ℕ) → place < length delays → slice_index delays place ≡ between (peer_at i place) i

-- a clock is below each seen clock and the delay from that peer
abbrev pub IsBelowAll : ℕ → List Seen → List ℕ → Type 0
IsBelowAll clock seen delays =
    (place : ℕ) (d : Seen) → place < length seen
    → clock < (slice_index_or seen place d).clock + slice_index delays place
