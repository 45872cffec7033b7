use Rattle.std.specs.Prelude.{ℕ, ◌≡◌, ◌≢◌, ◌+◌, ◌<◌, ◌≤◌, nat_le, List, [], ◌∷◌, ◌++◌, length, take, filter, slice_get}
use Rattle.std.specs.Prelude.{All, AllPairs, Contains, Some, IfSome, option_to_list}
use Rattle.std.proofs.Common.{suc}
use Rattle.link_node.specs.declared.signal.Incoming.{Incoming}
use Rattle.link_node.specs.declared.signal.Signal.{Signal}
use Rattle.link_node.specs.Due.{FitsWidths}
use Rattle.link_order.specs.declared.sent.Sent.{Sent}
use Rattle.link_order.specs.NodeKind.{NodeKind}
use Rattle.link_order.specs.Order.{from, IsOrdered, IsAdded}
use Rattle.link_order.specs.Due.{due, waiting}
use Rattle.link_order.specs.Cut.{Cut, hop, count, clock_at, was_at, IsSound, IsCable}
use Rattle.link_order.specs.GlobalOrder.{trace, run}
use Rattle.link_order.specs.Interleaving.{moment, count_of}
use Rattle.link_order.specs.Way.{console_after, signals_after, move_of, moves_of, clock_after, told_in, told_count}

-- step k of console i, begun at this cut: the move that stands in its place, and what it does to the console's clocks
pub record IsStep {C : Type 0} (kind : NodeKind C) (cut : Cut C) (ps : List ℕ) (until i k : ℕ) : Type 0 where
  pub move_is : slice_get (moves_of kind cut ps i) k ≡ Some (move_of kind (moment kind cut ps i k) i)
  pub early : clock_at kind (moment kind cut ps i k) i < until
  pub rises : clock_at kind (moment kind cut ps i k) i < clock_at kind (moment kind cut ps i (suc k)) i
  pub short : clock_at kind (moment kind cut ps i (suc k)) i ≤ clock_at kind (moment kind cut ps i k) i + 512
  pub was_is : was_at kind (moment kind cut ps i (suc k)) i ≡ clock_at kind (moment kind cut ps i k) i
  pub bears : IfSome (move_of kind (moment kind cut ps i k) i).tells
      (λ s. s.clock ≡ clock_at kind (moment kind cut ps i k) i)
  pub fits : IfSome (move_of kind (moment kind cut ps i k) i).tells FitsWidths

-- console i's way along these steps
pub record IsWay {C : Type 0} (kind : NodeKind C) (cut : Cut C) (ps : List ℕ) (until i : ℕ) : Type 0 where
  pub count_is : length (moves_of kind cut ps i) ≡ count_of i ps
  pub clock_is : (k : ℕ) → clock_at kind (moment kind cut ps i k) i
      ≡ clock_after (clock_at kind cut i) (moves_of kind cut ps i) k
  pub signals_are : (k : ℕ) → signals_after kind cut ps i k
      ≡ from i cut.sent ++ told_in (take k (moves_of kind cut ps i))
  pub first_ones : (k : ℕ) → told_in (take k (moves_of kind cut ps i))
      ≡ take (told_count (moves_of kind cut ps i) k) (told_in (moves_of kind cut ps i))
  pub steps : (k : ℕ) → k < count_of i ps → IsStep kind cut ps until i k
  pub goes_on : (k : ℕ) → clock_at kind (moment kind cut ps i k) i < until → k < count_of i ps

-- each console of a sound cut has its way through the trace
abbrev pub HasWays : {C : Type 0} → NodeKind C → Type 0
HasWays {C} kind =
    (cut : Cut C) (until i : ℕ) → IsCable cut → IsSound kind cut → i < count cut
    → IsWay kind cut (trace kind cut until) until i

-- signals of a player that are known by a clock: all others that it sends to the end bear this clock or a later one
pub record IsKnown {C : Type 0} (kind : NodeKind C) (cut : Cut C) (until j base : ℕ) (known : List Signal) : Type 0
  where
    pub rest : List Signal
    pub all_is : from j (run kind cut until).sent ≡ known ++ rest
    pub late : All (λ (s : Signal). base ≤ s.clock) rest

-- console x of player i after k steps, with so much known of each peer that its next step may be made
pub record Knows {C : Type 0} (kind : NodeKind C) (cut : Cut C) (until i k : ℕ) (x : C) (known : ℕ → List Signal)
    (base : ℕ → ℕ) : Type 0 where
  pub player : i < count cut
  pub stands : console_after kind cut (trace kind cut until) i k ≡ Some x
  pub early : kind.clock x < until
  pub knows : (j : ℕ) → j < count cut → j ≢ i → IsKnown kind cut until j (base j) (known j)
  pub ahead : (j : ℕ) → j < count cut → j ≢ i → kind.clock x < base j + hop cut j i

-- the trace's next step, by what is known
pub record Turns {C : Type 0} (kind : NodeKind C) (cut : Cut C) (until i k : ℕ) (x : C) (known : ℕ → List Signal)
    : Type 0 where
  pub goes : k < count_of i (trace kind cut until)
  pub console : console_after kind cut (trace kind cut until) i (suc k)
      ≡ Some (kind.next x (due (hop cut) known i (kind.was x) (kind.clock x) (count cut))).0
  pub tells : (move_of kind (moment kind cut (trace kind cut until) i k) i).tells
      ≡ (kind.next x (due (hop cut) known i (kind.was x) (kind.clock x) (count cut))).1
  pub signals : signals_after kind cut (trace kind cut until) i (suc k)
      ≡ signals_after kind cut (trace kind cut until) i k
      ++ option_to_list (kind.next x (due (hop cut) known i (kind.was x) (kind.clock x) (count cut))).1

abbrev pub TurnsByKnowledge : {C : Type 0} → NodeKind C → Type 0
TurnsByKnowledge {C} kind =
    (cut : Cut C) (until i k : ℕ) (x : C) (known : ℕ → List Signal) (base : ℕ → ℕ) → IsCable cut → IsSound kind cut
    → Knows kind cut until i k x known base → Turns kind cut until i k x known

-- the trace to an earlier end, as the first part of the trace to a later one
pub record IsPrefix {C : Type 0} (kind : NodeKind C) (cut : Cut C) (first until : ℕ) : Type 0 where
  pub rest : List ℕ
  pub trace_is : trace kind cut until ≡ trace kind cut first ++ rest
  pub moments : (i k : ℕ) → k < count_of i (trace kind cut first)
      → moment kind cut (trace kind cut until) i k ≡ moment kind cut (trace kind cut first) i k
  pub consoles : (i k : ℕ) → k ≤ count_of i (trace kind cut first)
      → console_after kind cut (trace kind cut until) i k ≡ console_after kind cut (trace kind cut first) i k
  pub signals : (i k : ℕ) → k ≤ count_of i (trace kind cut first)
      → signals_after kind cut (trace kind cut until) i k ≡ signals_after kind cut (trace kind cut first) i k
  pub begun : (i k : ℕ) → i < count cut → clock_at kind (moment kind cut (trace kind cut until) i k) i < first
      → k < count_of i (trace kind cut first)

abbrev pub BeginsWithPrefixes : {C : Type 0} → NodeKind C → Type 0
BeginsWithPrefixes {C} kind =
    (cut : Cut C) (first until : ℕ) → first ≤ until → IsCable cut → IsSound kind cut → IsPrefix kind cut first until

-- signals that have arrived when a console's last step began, of each player
abbrev pub AreDead : (ℕ → ℕ → ℕ) → (ℕ → List Signal) → ℕ → ℕ → ℕ → Type 0
AreDead between dead i was count =
    (j : ℕ) → j < count → j ≢ i → All (λ (s : Signal). s.clock + between j i ≤ was) (dead j)

-- of a player's signals each later one bears a later clock
abbrev pub Rise : (ℕ → List Signal) → Type 0
Rise known = (j : ℕ) → AllPairs (λ (a b : Signal). a.clock < b.clock) (known j)

-- dead signals before the others add nothing, neither to what is due nor to what waits
pub record AddNothing (between : ℕ → ℕ → ℕ) (dead known : ℕ → List Signal) (i was count : ℕ) : Type 0 where
  pub to_due : (clock : ℕ) → due between (λ j. dead j ++ known j) i was clock count
      ≡ due between known i was clock count
  pub to_waiting : waiting between (λ j. dead j ++ known j) i was count ≡ waiting between known i was count

abbrev pub DropsDead : Type 0
DropsDead =
    (between : ℕ → ℕ → ℕ) (dead known : ℕ → List Signal) (i was count : ℕ) → AreDead between dead i was count
    → AddNothing between dead known i was count

-- what is due is what waits and has arrived
abbrev pub FiltersWaiting : Type 0
FiltersWaiting =
    (between : ℕ → ℕ → ℕ) (known : ℕ → List Signal) (i was clock count : ℕ) → Rise known
    → due between known i was clock count
    ≡ filter (λ (one : Incoming). nat_le one.arrival clock) (waiting between known i was count)

-- what waits is what is due, and then what waits after that step
abbrev pub WaitsInParts : Type 0
WaitsInParts =
    (between : ℕ → ℕ → ℕ) (known : ℕ → List Signal) (i was clock count : ℕ) → was ≤ clock → Rise known
    → waiting between known i was count
    ≡ due between known i was clock count ++ waiting between known i clock count

-- signals added one after another
abbrev pub AreAdded : List Sent → List Sent → List Sent → Type 0
AreAdded [] old new = new ≡ old
AreAdded (one ∷ rest) old new = (between : List Sent) × IsAdded one old between × AreAdded rest between new

-- an ordered list comes out again whatever the order in which its members are added to nothing
abbrev pub GathersAll : Type 0
GathersAll =
    (all given new : List Sent) → IsOrdered all → All (Contains all) given → All (Contains given) all
    → AreAdded given [] new → new ≡ all
