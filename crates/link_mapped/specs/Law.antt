use Rattle.std.specs.Prelude.{ℕ, ◌≡◌, ◌<◌, ◌≤◌, List, option_map, slice_get}
use Rattle.link_node.specs.declared.signal.Incoming.{Incoming}
use Rattle.link_order.specs.Cut.{Cut, HasDelays, IsInTime, IsSound, clock_at, count, is_live, live}
use Rattle.link_order.specs.GlobalOrder.{least, run, step}
use Rattle.link_order.specs.NodeKind.{NodeKind}
use Rattle.link_order.specs.declared.sent.Sent.{Sent}
use Rattle.link_mapped.specs.Mapped.{IsUnseen, KeepsClocks, mapped}

-- the laws. `kind` is any kind of console; two cuts are alike where their consoles are, and their delays and signals
-- are the same

-- runs of alike cuts end alike
abbrev pub RunsAlike : {C : Type 0} → NodeKind C → Type 0
RunsAlike {C} kind =
    (f g : ℕ → C → C) (cut other : Cut C) (until : ℕ) → IsUnseen kind f g → mapped f cut ≡ mapped g other
    → mapped f (run kind cut until) ≡ mapped g (run kind other until)

-- A run of changed consoles ends with the same change of what the run of the consoles themselves ends with.
abbrev pub MapsRuns : {C : Type 0} → NodeKind C → Type 0
MapsRuns {C} kind =
    (f : ℕ → C → C) (cut : Cut C) (until : ℕ) → IsUnseen kind f (λ i x. x)
    → run kind (mapped f cut) until ≡ mapped f (run kind cut until)

-- runs of cuts whose live signals are the same end so
abbrev pub RunsLiveAlike : {C : Type 0} → NodeKind C → Type 0
RunsLiveAlike {C} kind =
    (f g : ℕ → C → C) (cut other : Cut C) (until : ℕ) → IsUnseen kind f g
    → 0 < count cut → HasDelays cut → IsSound kind cut → IsSound kind other
    → mapped f (live kind cut) ≡ mapped g (live kind other)
    → mapped f (live kind (run kind cut until)) ≡ mapped g (live kind (run kind other until))

-- what alike cuts have in common
pub record IsAlike {C : Type 0} (kind : NodeKind C) (f g : ℕ → C → C) (cut other : Cut C) : Type 0 where
  pub same_count : count cut ≡ count other
  pub same_awaited : (one : Sent) → is_live kind cut one ≡ is_live kind other one
  pub same_live : mapped f (live kind cut) ≡ mapped g (live kind other)
  pub sound : IsSound kind cut → IsSound kind other
  pub in_time : IsInTime kind cut → IsInTime kind other

abbrev pub AreAlike : {C : Type 0} → NodeKind C → Type 0
AreAlike {C} kind =
    (f g : ℕ → C → C) (cut other : Cut C) → KeepsClocks kind f g → mapped f cut ≡ mapped g other
    → IsAlike kind f g cut other

-- A run may be made in parts, where after each part only the signals are kept that can still be taken.
abbrev pub RunsLiveInParts : {C : Type 0} → NodeKind C → Type 0
RunsLiveInParts {C} kind =
    (cut : Cut C) (first until : ℕ) → 0 < count cut → HasDelays cut → IsSound kind cut → first ≤ until
    → live kind (run kind (live kind (run kind cut first)) until) ≡ live kind (run kind cut until)

-- One step of the global order of alike cuts: it begins at the same clock, leaves alike cuts, of which only the signals
-- are kept that can still be taken, and what can be told of an alike console's step is told the same of the console
-- that stepped.
pub record StepAlike {C : Type 0} (kind : NodeKind C) (f g : ℕ → C → C) (cut other : Cut C) : Type 0 where
  pub clock : clock_at kind cut (least kind cut) ≡ clock_at kind other (least kind other)
  pub next : mapped f (live kind (step kind cut)) ≡ mapped g (live kind (step kind other))
  pub told : (h : C → List ℕ)
      → ((i : ℕ) (x y : C) (due : List Incoming) → f i x ≡ g i y → h (kind.next x due).0 ≡ h (kind.next y due).0)
      → option_map h (slice_get (step kind cut).consoles (least kind cut))
      ≡ option_map h (slice_get (step kind other).consoles (least kind other))

abbrev pub StepsAlike : {C : Type 0} → NodeKind C → Type 0
StepsAlike {C} kind =
    (f g : ℕ → C → C) (cut other : Cut C) → IsUnseen kind f g → mapped f cut ≡ mapped g other
    → StepAlike kind f g cut other
