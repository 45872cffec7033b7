use Rattle.std.specs.Prelude.{ℕ, ◌≡◌, ◌≢◌, ◌+◌, ◌*◌, ◌<◌, ◌≤◌, ◌⊎◌, List, [], ◌∷◌, ◌++◌, length, All, slice_get}
use Rattle.link_node.specs.declared.signal.Signal.{Signal}
use Rattle.link_order.specs.NodeKind.{NodeKind}
use Rattle.link_order.specs.Order.{from}
use Rattle.link_node.specs.declared.delays.Delays.{Delays}
use Rattle.link_order.specs.Cut.{Cut, hop, count, clock_at, was_at, live, IsSound, IsInTime, IsCable, IsFresh}
use Rattle.link_order.specs.Cut.{HasDelaysWithin, opening}
use Rattle.link_order.specs.GlobalOrder.{trace, run}
use Rattle.link_order.specs.Interleaving.{Watched, Action, Look, Step, happens, first_watch, IsInterleaving, MayStepHere}
use Rattle.link_order.specs.Interleaving.{after_actions}
use Rattle.link_order.specs.Interleaving.{steps_of, moment, count_of}
use Rattle.link_order.specs.Way.{console_after, signals_after}

-- console i of a cut is the one, with the signals, that the global order has after k of that console's steps
pub record IsAfter {C : Type 0} (kind : NodeKind C) (cut : Cut C) (until : ℕ) (d : Cut C) (i k : ℕ) : Type 0 where
  pub within : k ≤ count_of i (trace kind cut until)
  pub console : slice_get d.consoles i ≡ console_after kind cut (trace kind cut until) i k
  pub signals : from i d.sent ≡ signals_after kind cut (trace kind cut until) i k

-- a cut from which the global order goes on as from an earlier one, with as many consoles and the same cable
pub record GoesOn {C : Type 0} (kind : NodeKind C) (cut : Cut C) (until : ℕ) (d : Cut C) : Type 0 where
  pub count_is : count d ≡ count cut
  pub delays_are : d.delays ≡ cut.delays
  pub cable : IsCable d
  pub sound : IsSound kind d
  pub in_time : IsInTime kind cut → IsInTime kind d
  pub same_end : run kind d until ≡ run kind cut until
  pub at_end : ((i : ℕ) → i < count d → until ≤ clock_at kind d i) → d ≡ run kind cut until

-- consoles that a list of actions has reached: each is the global order's after as many of its steps, and
-- the cut goes on
pub record IsEqual {C : Type 0} (kind : NodeKind C) (cut : Cut C) (until : ℕ) (actions : List Action)
    (d : Cut C) : Type 0
  where
    pub each : (i : ℕ) → i < count cut → IsAfter kind cut until d i (steps_of i actions)
    pub goes_on : GoesOn kind cut until d

-- what a look of console i at console j adds to what i has got of j
pub record Adds {C : Type 0} (kind : NodeKind C) (w : Watched C) (i j : ℕ) (added : List Signal) : Type 0 where
  pub got_is : (happens kind (Look i j) w).got i j ≡ w.got i j ++ added
  pub sent_is : from j w.cut.sent ≡ w.got i j ++ added

-- a signal of j that arrives at i after i's last step began
abbrev pub ArrivesLater : {C : Type 0} → NodeKind C → Watched C → ℕ → ℕ → Signal → Type 0
ArrivesLater kind w i j signal = was_at kind w.cut i < signal.clock + hop w.cut j i

-- all that a look would add arrives later
pub record LooksAhead {C : Type 0} (kind : NodeKind C) (w : Watched C) (i j : ℕ) : Type 0 where
  pub added : List Signal
  pub adds : Adds kind w i j added
  pub later : All (ArrivesLater kind w i j) added

-- all that a look would add is few
pub record FewUnread {C : Type 0} (kind : NodeKind C) (w : Watched C) (i j : ℕ) : Type 0 where
  pub added : List Signal
  pub adds : Adds kind w i j added
  pub few : length added ≤ hop w.cut i j + hop w.cut j i + 511
  pub fits : length added < 4096

-- some action is console i's look at console j
abbrev pub LooksAt : ℕ → ℕ → List Action → Type 0
LooksAt i j [] = ⊥
LooksAt i j (Look a b ∷ rest) = ((a ≡ i) × (b ≡ j)) ⊎ LooksAt i j rest
LooksAt i j (Step a ∷ rest) = LooksAt i j rest

-- no action is a step of console i
abbrev pub StaysAside : ℕ → List Action → Type 0
StaysAside i [] = Unit {0}
StaysAside i (Look a b ∷ rest) = StaysAside i rest
StaysAside i (Step a ∷ rest) = (a ≢ i) × StaysAside i rest

-- the console that is furthest behind, with a step left
pub record IsFurthestBehind {C : Type 0} (kind : NodeKind C) (until : ℕ) (d : Cut C) (i : ℕ) : Type 0 where
  pub player : i < count d
  pub least : (j : ℕ) → j < count d → clock_at kind d i ≤ clock_at kind d j
  pub early : clock_at kind d i < until

-- counts of steps that an interleaving can reach: no console has more than all its steps, and none has begun its last
-- step where a peer with its count could still have had something to say
pub record IsReachable {C : Type 0} (kind : NodeKind C) (cut : Cut C) (until : ℕ) (k : ℕ → ℕ) : Type 0 where
  pub within : (i : ℕ) → i < count cut → k i ≤ count_of i (trace kind cut until)
  pub heard : (i j : ℕ) → i < count cut → j < count cut → i ≢ j → 0 < k i
      → was_at kind (moment kind cut (trace kind cut until) i (k i)) i
      < clock_at kind (moment kind cut (trace kind cut until) j (k j)) j + hop cut j i

-- an interleaving that reaches these counts
pub record Reaches {C : Type 0} (kind : NodeKind C) (cut : Cut C) (until : ℕ) (k : ℕ → ℕ) : Type 0 where
  pub actions : List Action
  pub allowed : IsInterleaving kind until actions (first_watch kind cut)
  pub each : (i : ℕ) → i < count cut
      → IsAfter kind cut until (after_actions kind actions (first_watch kind cut)).cut i (k i)

-- a cut whose consoles have each made k of their steps, with the same bounds
pub record IsReachableCut {C : Type 0} (kind : NodeKind C) (cut : Cut C) (until : ℕ) (d : Cut C) (k : ℕ → ℕ) : Type 0
  where
    pub count_is : count d ≡ count cut
    pub each : (i : ℕ) → i < count cut → IsAfter kind cut until d i (k i)
    pub heard : (i j : ℕ) → i < count cut → j < count cut → i ≢ j → 0 < k i
        → was_at kind d i < clock_at kind d j + hop cut j i

-- an interleaving that reaches this cut's consoles, with the signals of these steps
pub record ReachesCut {C : Type 0} (kind : NodeKind C) (cut : Cut C) (until : ℕ) (d : Cut C) : Type 0 where
  pub actions : List Action
  pub allowed : IsInterleaving kind until actions (first_watch kind cut)
  pub consoles : (after_actions kind actions (first_watch kind cut)).cut.consoles ≡ d.consoles
  pub signals : (i : ℕ) → i < count cut
      → from i (after_actions kind actions (first_watch kind cut)).cut.sent ≡ from i d.sent

-- a cut that is sound and in time
pub record IsStart {C : Type 0} (kind : NodeKind C) (cut : Cut C) : Type 0 where
  pub sound : IsSound kind cut
  pub in_time : IsInTime kind cut

-- the laws. `kind` is any kind of console

-- a run may be made in parts
abbrev pub RunsInParts : {C : Type 0} → NodeKind C → Type 0
RunsInParts {C} kind =
    (cut : Cut C) (first until : ℕ) → first ≤ until → run kind (run kind cut first) until ≡ run kind cut until

-- every interleaving of a sound cut equals the global order
abbrev pub EqualsGlobalOrder : {C : Type 0} → NodeKind C → Type 0
EqualsGlobalOrder {C} kind =
    (cut : Cut C) (until : ℕ) (actions : List Action) → IsCable cut → IsSound kind cut
    → IsInterleaving kind until actions (first_watch kind cut)
    → IsEqual kind cut until actions (after_actions kind actions (first_watch kind cut)).cut

-- from a cut in time no look brings a signal that should have been taken
abbrev pub BringsNothingPast : {C : Type 0} → NodeKind C → Type 0
BringsNothingPast {C} kind =
    (cut : Cut C) (until : ℕ) (actions : List Action) (i j : ℕ) → IsCable cut → IsSound kind cut → IsInTime kind cut
    → IsInterleaving kind until actions (first_watch kind cut) → i < count cut → j < count cut → i ≢ j
    → LooksAhead kind (after_actions kind actions (first_watch kind cut)) i j

-- the console that is furthest behind may step once it has looked at each peer, with any actions of the others between
abbrev pub LetsTheLastStep : {C : Type 0} → NodeKind C → Type 0
LetsTheLastStep {C} kind =
    (cut : Cut C) (until : ℕ) (actions more : List Action) (i : ℕ) → IsCable cut → IsSound kind cut
    → IsInterleaving kind until actions (first_watch kind cut)
    → IsFurthestBehind kind until (after_actions kind actions (first_watch kind cut)).cut i
    → IsInterleaving kind until more (after_actions kind actions (first_watch kind cut))
    → StaysAside i more → ((j : ℕ) → j < count cut → j ≢ i → LooksAt i j more)
    → MayStepHere kind until (after_actions kind more (after_actions kind actions (first_watch kind cut))) i

-- no clock gets further ahead of another than the delay and a step
abbrev pub KeepsNear : {C : Type 0} → NodeKind C → Type 0
KeepsNear {C} kind =
    (cut : Cut C) (until : ℕ) (actions : List Action) (i j : ℕ) → IsCable cut → IsSound kind cut
    → IsInterleaving kind until actions (first_watch kind cut) → i < count cut → j < count cut
    → clock_at kind (after_actions kind actions (first_watch kind cut)).cut i
    < clock_at kind (after_actions kind actions (first_watch kind cut)).cut j + hop cut j i + 512

-- few signals of one console are unseen by a peer
abbrev pub LeavesFewUnread : {C : Type 0} → NodeKind C → Type 0
LeavesFewUnread {C} kind =
    (cut : Cut C) (until : ℕ) (actions : List Action) (i j : ℕ) → IsCable cut → IsSound kind cut
    → IsInterleaving kind until actions (first_watch kind cut) → i < count cut → j < count cut → i ≢ j
    → FewUnread kind (after_actions kind actions (first_watch kind cut)) i j

-- few signals of one sender are live, `most` being at least each delay
abbrev pub HasFewLive : {C : Type 0} → NodeKind C → Type 0
HasFewLive {C} kind =
    (cut : Cut C) (most j : ℕ) → IsCable cut → IsSound kind cut → HasDelaysWithin most cut
    → length (from j (live kind cut).sent) ≤ 2 * most + 511

-- counts of steps are reached, where no peer can still tell a console what it should have taken
abbrev pub ReachesCounts : {C : Type 0} → NodeKind C → Type 0
ReachesCounts {C} kind =
    (cut : Cut C) (until : ℕ) (k : ℕ → ℕ) → IsCable cut → IsSound kind cut → IsReachable kind cut until k
    → Reaches kind cut until k

-- the same of a cut with these consoles
abbrev pub ReachesCuts : {C : Type 0} → NodeKind C → Type 0
ReachesCuts {C} kind =
    (cut d : Cut C) (until : ℕ) (k : ℕ → ℕ) → IsCable cut → IsSound kind cut → IsReachableCut kind cut until d k
    → ReachesCut kind cut until d

-- consoles that all stand at clock 0 with nothing sent are sound and in time
abbrev pub StartsInTime : {C : Type 0} → NodeKind C → Type 0
StartsInTime {C} kind =
    (consoles : List C) (delays : Delays) → IsCable (opening consoles delays) → All (IsFresh kind) consoles
    → IsStart kind (opening consoles delays)
