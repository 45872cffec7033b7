use Rattle.std.specs.Prelude.{ℕ, ◌≢◌, ◌+◌, ◌<◌, ◌&&◌, ◌==◌, if◌then◌else◌, List, [], ◌∷◌}
use Rattle.std.proofs.Common.{zero, suc}
use Rattle.link_node.specs.declared.signal.Incoming.{Incoming}
use Rattle.link_node.specs.declared.signal.Signal.{Signal}
use Rattle.link_order.specs.NodeKind.{NodeKind}
use Rattle.link_order.specs.Order.{from}
use Rattle.link_order.specs.Due.{due}
use Rattle.link_order.specs.Cut.{Cut, hop, count, clock_at, was_at}
use Rattle.link_order.specs.GlobalOrder.{step_with, step_of}

-- this project's profile: consoles that step by what each has seen of the others

-- the consoles with all that was sent, and what console i has seen of console j: a clock, and the
-- signals sent till then
pub record Watched (C : Type 0) : Type 0 where
  pub cut : Cut C
  pub seen : ℕ → ℕ → ℕ
  pub got : ℕ → ℕ → List Signal

-- at first each console has seen the cut's clocks and signals
abbrev pub first_watch : {C : Type 0} → NodeKind C → Cut C → Watched C
first_watch kind cut = record { cut = cut; seen = λ i j. clock_at kind cut j; got = λ i j. from j cut.sent }

-- console i looks at console j, or console i steps
pub data Action : Type 0 where
  Look : ℕ → ℕ → Action
  Step : ℕ → Action

-- a function of two players with one place changed
abbrev pub update : {A : Type 0} → ℕ → ℕ → A → (ℕ → ℕ → A) → ℕ → ℕ → A
update i j y f a b = if (a == i) && (b == j) then y else f a b

-- what a step of console i takes, of what it has seen
abbrev pub due_seen : {C : Type 0} → NodeKind C → Watched C → ℕ → List Incoming
due_seen kind w i = due (hop w.cut) (w.got i) i (was_at kind w.cut i) (clock_at kind w.cut i) (count w.cut)

-- what an action makes: a look sees the present clock and all that was sent till then, a step goes by what was seen
abbrev pub happens : {C : Type 0} → NodeKind C → Action → Watched C → Watched C
happens kind (Look i j) w = record {
  cut = w.cut;
  seen = update i j (clock_at kind w.cut j) w.seen;
  got = update i j (from j w.cut.sent) w.got;
}
happens kind (Step i) w = record { cut = step_with kind w.cut i (due_seen kind w i); seen = w.seen; got = w.got }

-- console i of so many may step while its clock is below `until`, and below each peer's clock that it has seen, plus
-- the delay from there
pub record MayStep (players i clock until : ℕ) (seen : ℕ → ℕ) (between : ℕ → ℕ → ℕ) : Type 0 where
  pub player : i < players
  pub early : clock < until
  pub ahead : (j : ℕ) → j < players → j ≢ i → clock < seen j + between j i

-- the same of a console by what it has seen here
abbrev pub MayStepHere : {C : Type 0} → NodeKind C → ℕ → Watched C → ℕ → Type 0
MayStepHere kind until w i = MayStep (count w.cut) i (clock_at kind w.cut i) until (w.seen i) (hop w.cut)

abbrev pub May : {C : Type 0} → NodeKind C → ℕ → Watched C → Action → Type 0
May kind until w (Look i j) = Unit {0}
May kind until w (Step i) = MayStepHere kind until w i

-- an interleaving: each step is allowed when it comes
abbrev pub IsInterleaving : {C : Type 0} → NodeKind C → ℕ → List Action → Watched C → Type 0
IsInterleaving kind until [] w = Unit {0}
IsInterleaving kind until (act ∷ rest) w = May kind until w act × IsInterleaving kind until rest (happens kind act w)

-- what the actions make, one after another
abbrev pub after_actions : {C : Type 0} → NodeKind C → List Action → Watched C → Watched C
after_actions kind [] w = w
after_actions kind (act ∷ rest) w = after_actions kind rest (happens kind act w)

-- how often player i steps
abbrev pub steps_of : ℕ → List Action → ℕ
steps_of i [] = 0
steps_of i (Look a b ∷ rest) = steps_of i rest
steps_of i (Step a ∷ rest) = if a == i then 1 + steps_of i rest else steps_of i rest

-- how often player i is among these players
abbrev pub count_of : ℕ → List ℕ → ℕ
count_of i [] = 0
count_of i (p ∷ rest) = if p == i then 1 + count_of i rest else count_of i rest

-- the cut at which console i of these steps has made k of its own and is about to make the next, or has made all
abbrev pub moment : {C : Type 0} → NodeKind C → Cut C → List ℕ → ℕ → ℕ → Cut C
moment kind cut [] i k = cut
moment kind cut (p ∷ rest) i zero = if p == i then cut else moment kind (step_of kind cut p) rest i zero
moment kind cut (p ∷ rest) i (suc k) =
    if p == i then moment kind (step_of kind cut p) rest i k else moment kind (step_of kind cut p) rest i (suc k)
