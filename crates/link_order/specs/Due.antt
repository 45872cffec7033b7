use Rattle.std.specs.Prelude.{ℕ, Bool, ◌+◌, ◌&&◌, ◌==◌, nat_lt, nat_le, if◌then◌else◌, List, [], ◌∷◌}
use Rattle.std.proofs.Common.{zero, suc}
use Rattle.link_node.specs.declared.signal.Incoming.{Incoming}
use Rattle.link_node.specs.declared.signal.Signal.{Signal}
use Rattle.link_order.specs.Order.{place}

-- this project's profile: the signals that a step takes, and those that a console can still take

-- whether a step with these clocks takes what arrives then: after its last step began, and at or before this one
abbrev pub is_due : ℕ → ℕ → ℕ → Bool
is_due was clock arrival = nat_le arrival clock && nat_lt was arrival

-- a signal as it arrives after a delay
abbrev pub incoming : ℕ → ℕ → Signal → Incoming
incoming delay sender signal = record { sender = sender; arrival = signal.clock + delay; signal = signal }

-- those of one sender's signals whose arrivals pass a test
abbrev pub arriving : (ℕ → Bool) → ℕ → ℕ → List Signal → List Incoming
arriving passes delay sender [] = []
arriving passes delay sender (signal ∷ rest) =
    if passes (signal.clock + delay)
    then incoming delay sender signal ∷ arriving passes delay sender rest
    else arriving passes delay sender rest

-- due signals stand by arrival, then by sender
abbrev pub arrival_of : Incoming → ℕ
arrival_of one = one.arrival

abbrev pub player_of : Incoming → ℕ
player_of one = one.sender

abbrev pub place_due : Incoming → List Incoming → List Incoming
place_due = place arrival_of player_of

-- the signals of one list put in their places in another
abbrev pub place_all : List Incoming → List Incoming → List Incoming
place_all [] due = due
place_all (one ∷ rest) due = place_all rest (place_due one due)

-- of the signals known of each player below `count` but i itself, those whose arrivals at i pass a test, by arrival,
-- then by sender. `between j i` is the delay from j to i
abbrev pub arrivals : (ℕ → ℕ → ℕ) → (ℕ → List Signal) → ℕ → (ℕ → Bool) → ℕ → List Incoming
arrivals between known i passes zero = []
arrivals between known i passes (suc j) =
    if j == i
    then arrivals between known i passes j
    else place_all (arriving passes (between j i) j (known j)) (arrivals between known i passes j)

-- what a step of player i takes
abbrev pub due : (ℕ → ℕ → ℕ) → (ℕ → List Signal) → ℕ → ℕ → ℕ → ℕ → List Incoming
due between known i was clock count = arrivals between known i (is_due was clock) count

-- what player i can still take, now or later: what arrives after its last step began
abbrev pub waiting : (ℕ → ℕ → ℕ) → (ℕ → List Signal) → ℕ → ℕ → ℕ → List Incoming
waiting between known i was count = arrivals between known i (nat_lt was) count
