-- The delays between the players, as the lines of a job say them.
use Rattle.std.specs.Prelude.{ℕ, Bool, ◌&&◌, ◌==◌, not, nat_lt, List, [], ◌∷◌, Option, Some, None, if◌then◌else◌}
use Rattle.std.specs.List.{find}
use Rattle.link_node.specs.declared.delays.Delays.{Delays}
use Rattle.gba_joblog.specs.declared.cable.Link.{Link}
use Rattle.gba_joblog.specs.declared.cable.Pair.{Pair}

-- the delay in cycles of a pair that the cable doesn't join, and where no line says one
abbrev pub usual_delay : ℕ
usual_delay = 512

-- how many players the cable of so many consoles has: beside a console that is alone there is a second one
abbrev pub players_for : ℕ → ℕ
players_for consoles = if nat_lt consoles 2 then 2 else consoles

abbrev pub pair_of : ℕ → ℕ → Pair
pair_of sender receiver = record { sender = sender; receiver = receiver }

-- every pair of two players, by sender and then by receiver
abbrev pub all_pairs : List Pair
all_pairs =
    pair_of 0 1 ∷ pair_of 0 2 ∷ pair_of 0 3 ∷ pair_of 1 0 ∷ pair_of 1 2 ∷ pair_of 1 3 ∷ pair_of 2 0 ∷ pair_of 2 1
    ∷ pair_of 2 3 ∷ pair_of 3 0 ∷ pair_of 3 1 ∷ pair_of 3 2 ∷ []

-- whether a cable of so many players joins a pair: two players of it
abbrev pub is_joined : ℕ → Pair → Bool
is_joined players pair =
    nat_lt pair.sender players && nat_lt pair.receiver players && not (pair.sender == pair.receiver)

abbrev pub is_link_of : Pair → Link → Bool
is_link_of pair link = (link.pair.sender == pair.sender) && (link.pair.receiver == pair.receiver)

-- the link of a pair, if it is among these
abbrev pub link_for : Pair → List Link → Option Link
link_for pair links = find (is_link_of pair) links

abbrev pub linked_delay : ℕ → Option Link → ℕ
linked_delay every None = every
linked_delay every (Some link) = link.delay

-- the delay of a pair: its link's or else that of all pairs where the cable joins it, and the usual one elsewhere
abbrev pub delay_of : ℕ → List Link → ℕ → Pair → ℕ
delay_of every links players pair =
    if is_joined players pair then linked_delay every (link_for pair links) else usual_delay

-- the delays of a sender to each receiver
abbrev pub row_of : (Pair → ℕ) → ℕ → List ℕ
row_of delay sender =
    delay (pair_of sender 0) ∷ delay (pair_of sender 1) ∷ delay (pair_of sender 2) ∷ delay (pair_of sender 3) ∷ []

-- one for each sender and each receiver
unfoldable pub table_of : (Pair → ℕ) → Delays
table_of delay = record { rows = row_of delay 0 ∷ row_of delay 1 ∷ row_of delay 2 ∷ row_of delay 3 ∷ [] }

-- the delays of a cable of so many players
unfoldable pub delays_of : ℕ → List Link → ℕ → Delays
delays_of every links players = table_of (delay_of every links players)
