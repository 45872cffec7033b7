use Rattle.std.specs.Prelude.{ℕ, Bool, false, nat_le, if◌then◌else◌, List, [], ◌∷◌}
use Rattle.link_node.specs.declared.signal.Incoming.{Incoming}

-- this project's profile: the signals that wait for a console, and what of them has arrived

-- the signals that wait, and those that were delivered last
pub record InboxState : Type 0 where
  pub waits : List Incoming
  pub due : List Incoming

-- whether the first one has arrived by this clock
abbrev pub has_arrived : ℕ → List Incoming → Bool
has_arrived clock [] = false
has_arrived clock (one ∷ rest) = nat_le one.arrival clock

-- the arrival of the first one, or a clock that no run reaches
abbrev pub next_arrival : List Incoming → ℕ
next_arrival [] = 18446744073709551615
next_arrival (one ∷ rest) = one.arrival

-- the first ones, up to the first that arrives later
abbrev pub arrived : ℕ → List Incoming → List Incoming
arrived clock [] = []
arrived clock (one ∷ rest) = if nat_le one.arrival clock then one ∷ arrived clock rest else []

-- the others
abbrev pub later : ℕ → List Incoming → List Incoming
later clock [] = []
later clock (one ∷ rest) = if nat_le one.arrival clock then later clock rest else one ∷ rest
