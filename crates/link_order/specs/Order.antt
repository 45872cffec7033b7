use Rattle.std.specs.Prelude.{ℕ, Bool, false, ◌≡◌, ◌⊎◌, Contains, ◌&&◌, ◌||◌, ◌==◌, nat_lt, if◌then◌else◌, List, []}
use Rattle.std.specs.Prelude.{◌∷◌, IsTrue}
use Rattle.std.specs.Prelude.{AllPairs}
use Rattle.link_node.specs.declared.signal.Signal.{Signal}
use Rattle.link_order.specs.declared.sent.Sent.{Sent}

-- this project's profile: lists in the order of two numbers, and the list of sent signals

-- whether x comes before y: by the first number, then by the second
abbrev pub is_before : {X : Type 0} → (X → ℕ) → (X → ℕ) → X → X → Bool
is_before first second x y = nat_lt (first x) (first y) || ((first x == first y) && nat_lt (second x) (second y))

-- x put into the list, before the first element that it comes before
abbrev pub place : {X : Type 0} → (X → ℕ) → (X → ℕ) → X → List X → List X
place first second x [] = x ∷ []
place first second x (y ∷ ys) = if is_before first second x y then x ∷ y ∷ ys else y ∷ place first second x ys

-- sent signals stand by clock, then by sender
abbrev pub clock_of : Sent → ℕ
clock_of one = one.signal.clock

abbrev pub sender_of : Sent → ℕ
sender_of one = one.sender

abbrev pub place_sent : Sent → List Sent → List Sent
place_sent = place clock_of sender_of

-- in that order, and no two of one sender with one clock
abbrev pub IsOrdered : List Sent → Type 0
IsOrdered sent = AllPairs (λ a b. IsTrue (is_before clock_of sender_of a b)) sent

-- in that order, where some may be of one sender with one clock
abbrev pub IsSorted : List Sent → Type 0
IsSorted sent = AllPairs (λ a b. is_before clock_of sender_of b a ≡ false) sent

-- a signal given to a list of sent signals: it was there already and nothing changed, or it is new and in its place
abbrev pub IsAdded : Sent → List Sent → List Sent → Type 0
IsAdded one old new =
    ((new ≡ old) × Contains old one) ⊎ ((new ≡ place_sent one old) × (Contains old one → ⊥))

-- the signals of one player, in the same order
abbrev pub from : ℕ → List Sent → List Signal
from player [] = []
from player (one ∷ rest) = if one.sender == player then one.signal ∷ from player rest else from player rest
