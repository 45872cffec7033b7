use Rattle.std.specs.Prelude.{ℕ, ◌≡◌, ◌≢◌, ◌+◌, ◌<◌, ◌≤◌, ◌⊎◌, ◌∷◌, ◌++◌, List, Some, All, slice_get}
use Rattle.std.proofs.Common.{suc}
use Rattle.link_node.specs.Due.{InOrder, IsDue}
use Rattle.link_node.specs.declared.signal.Incoming.{Incoming}
use Rattle.link_node.specs.declared.signal.Signal.{Signal}
use Rattle.link_order.specs.NodeKind.{NodeKind}
use Rattle.link_order.specs.Due.{incoming}
use Rattle.link_order.specs.Cut.{Cut, count, clock_at, was_at, hop, IsCable, IsSound}
use Rattle.link_order.specs.GlobalOrder.{trace, due_at}
use Rattle.link_order.specs.Interleaving.{moment, count_of}
use Rattle.link_order.specs.Way.{console_after}

-- this project's profile: the steps of a trace, one by one. They are numbered from 0, each console's apart

-- Step k of player i in the trace to `until`: the console stands as x, and takes these signals.
pub record MakesStep {C : Type 0} (kind : NodeKind C) (cut : Cut C) (until i k : ℕ) (x : C)
    (dues : List Incoming) : Type 0
  where
    pub player : i < count cut
    pub made : k < count_of i (trace kind cut until)
    pub stands : console_after kind cut (trace kind cut until) i k ≡ Some x
    pub takes : due_at kind (moment kind cut (trace kind cut until) i k) i ≡ dues

-- A signal of a peer as player i takes it.
pub record IsFromPeer {C : Type 0} (cut : Cut C) (i : ℕ) (one : Incoming) : Type 0 where
  pub player : one.sender < count cut
  pub other : one.sender ≢ i
  pub arrives : one.arrival ≡ one.signal.clock + hop cut one.sender i

-- What holds of every step: its clocks, and the signals that it takes.
pub record IsSoundStep {C : Type 0} (kind : NodeKind C) (cut : Cut C) (until i : ℕ) (x : C)
    (dues : List Incoming) : Type 0
  where
    pub early : kind.clock x < until
    pub begun : clock_at kind cut i ≤ kind.clock x
    pub rises : kind.was x ≤ kind.clock x
    pub short : kind.clock x ≤ kind.was x + 512
    pub ordered : InOrder dues
    pub due : All (IsDue (kind.was x) (kind.clock x)) dues
    pub from_peers : All (IsFromPeer cut i) dues

-- Console y of player i comes of step k.
pub record ComesOfStep {C : Type 0} (kind : NodeKind C) (cut : Cut C) (until i k : ℕ) (y : C) : Type 0 where
  pub x : C
  pub dues : List Incoming
  pub step : MakesStep kind cut until i k x dues
  pub next_is : y ≡ (kind.next x dues).0

-- Some step of player i takes what arrives at a clock.
pub record TakesAt {C : Type 0} (kind : NodeKind C) (cut : Cut C) (until i arrival : ℕ) : Type 0 where
  pub k : ℕ
  pub x : C
  pub dues : List Incoming
  pub step : MakesStep kind cut until i k x dues
  pub after : kind.was x < arrival
  pub by_now : arrival ≤ kind.clock x

-- The steps of each console: they go on from one to the next, and take what arrives, up to the end of the trace.
pub record HasSteps {C : Type 0} (kind : NodeKind C) (cut : Cut C) (until : ℕ) : Type 0 where
  pub sound : (i k : ℕ) (x : C) (dues : List Incoming) → MakesStep kind cut until i k x dues
      → IsSoundStep kind cut until i x dues
  pub one : (i k : ℕ) (x y : C) (ds es : List Incoming) → MakesStep kind cut until i k x ds
      → MakesStep kind cut until i k y es → (x ≡ y) × (ds ≡ es)
  pub first : (i : ℕ) (x : C) (dues : List Incoming) → MakesStep kind cut until i 0 x dues
      → slice_get cut.consoles i ≡ Some x
  pub further : (i k : ℕ) (y : C) (dues : List Incoming) → MakesStep kind cut until i (suc k) y dues
      → ComesOfStep kind cut until i k y
  pub later : (i k m : ℕ) (x y : C) (ds es : List Incoming) → MakesStep kind cut until i k x ds
      → MakesStep kind cut until i m y es → k < m → kind.clock x ≤ kind.was y
  pub taken_by : (i m arrival : ℕ) (y : C) (dues : List Incoming) → MakesStep kind cut until i m y dues
      → was_at kind cut i < arrival → arrival ≤ kind.clock y → TakesAt kind cut until i arrival
  pub taken_in_time : (i arrival : ℕ) → i < count cut → was_at kind cut i < arrival → arrival + 512 ≤ until
      → TakesAt kind cut until i arrival

-- One of a list, with those before and after it.
pub record StandsIn (one : Incoming) (dues : List Incoming) : Type 0 where
  pub earlier : List Incoming
  pub later : List Incoming
  pub split : dues ≡ earlier ++ one ∷ later

-- Some step of player j tells this signal.
pub record IsTold {C : Type 0} (kind : NodeKind C) (cut : Cut C) (until j : ℕ) (signal : Signal) : Type 0 where
  pub k : ℕ
  pub x : C
  pub dues : List Incoming
  pub step : MakesStep kind cut until j k x dues
  pub tells : (kind.next x dues).1 ≡ Some signal

-- A signal that is taken: it was sent before the cut, or some step tells it.
abbrev pub WasSent : {C : Type 0} → NodeKind C → Cut C → ℕ → Incoming → Type 0
WasSent kind cut until one =
    (one.signal.clock < clock_at kind cut one.sender) ⊎ IsTold kind cut until one.sender one.signal

-- What a step tells is taken where it arrives, and what is taken was told.
pub record PassesSignals {C : Type 0} (kind : NodeKind C) (cut : Cut C) (until : ℕ) : Type 0 where
  pub arrives : (j k i m : ℕ) (x y : C) (ds es : List Incoming) (signal : Signal) → MakesStep kind cut until j k x ds
      → (kind.next x ds).1 ≡ Some signal → MakesStep kind cut until i m y es → j ≢ i
      → kind.was y < signal.clock + hop cut j i → signal.clock + hop cut j i ≤ kind.clock y
      → StandsIn (incoming (hop cut j i) j signal) es
  pub was_sent : (i m : ℕ) (y : C) (es : List Incoming) → MakesStep kind cut until i m y es
      → All (WasSent kind cut until) es

-- the laws
abbrev pub MakesSteps : {C : Type 0} → NodeKind C → Type 0
MakesSteps {C} kind = (cut : Cut C) (until : ℕ) → IsCable cut → IsSound kind cut → HasSteps kind cut until

abbrev pub CarriesSignals : {C : Type 0} → NodeKind C → Type 0
CarriesSignals {C} kind = (cut : Cut C) (until : ℕ) → IsCable cut → IsSound kind cut → PassesSignals kind cut until
