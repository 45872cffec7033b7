use Rattle.std.specs.Prelude.{ℕ, ◌≡◌, ◌<◌, ◌≤◌, ◌^◌, ◌⊎◌, List, IfSome, AllPairs}
use Rattle.link_node.specs.declared.signal.Incoming.{Incoming}
use Rattle.link_node.specs.declared.signal.Signal.{Signal}

-- this project's profile: what a step of a console takes from its peers, and what a signal may say

-- a signal that a step with these clocks takes: it arrives after the last step began and at or before this one
pub record IsDue (was clock : ℕ) (one : Incoming) : Type 0 where
  pub after_last : was < one.arrival
  pub by_now : one.arrival ≤ clock
  pub from_player : one.sender < 4
  pub in_flight : one.signal.clock < one.arrival

-- the order in which a step takes signals: by arrival, then by sender
abbrev pub Precedes : Incoming → Incoming → Type 0
Precedes a b = (a.arrival < b.arrival) ⊎ ((a.arrival ≡ b.arrival) × (a.sender < b.sender))

-- each signal of the list comes before all later ones
abbrev pub InOrder : List Incoming → Type 0
InOrder = AllPairs Precedes

-- the parts of a signal fit their widths: a start's speed 2 bits, its word and a reply's word 32
abbrev pub FitsWidths : Signal → Type 0
FitsWidths signal =
    IfSome signal.start (λ start. (start.speed < 4) × (start.word < 2 ^ 32))
    × IfSome signal.reply (λ word. word < 2 ^ 32)
