use Rattle.std.specs.Prelude.{ℕ, ◌≡◌, ◌+◌, ◌<◌, ◌≤◌, List, length, All, Some, slice_get}
use Rattle.link_node.specs.declared.delays.Delays.{Delays}
use Rattle.link_order.specs.NodeKind.{NodeKind}
use Rattle.link_order.specs.Cut.{Cut, count, clock_at, live, opening, IsCable, IsFresh, IsInTime, IsSound}
use Rattle.link_order.specs.GlobalOrder.{run}
use Rattle.link_core.specs.Kept.{AllFit}
use Rattle.link_core.specs.Whole.{IsWhole}
use Rattle.link_cut_laws.specs.Steps.{StepsTo}

-- A cable's cut from which a run can go on, with signals that fit their widths and are few: at most 2,559 of each of
-- four consoles.
pub record CanGoOn {C : Type 0} (kind : NodeKind C) (cut : Cut C) : Type 0 where
  pub cable : IsCable cut
  pub whole : IsWhole kind cut
  pub fit : AllFit cut.sent
  pub few : length cut.sent ≤ 10236

-- as many consoles, with the same delays between them
pub record HasSameCable {C : Type 0} (cut d : Cut C) : Type 0 where
  pub count_is : count d ≡ count cut
  pub delays_are : d.delays ≡ cut.delays

-- console y of player i has come there from the one of the cut, by steps that begin before `until`
pub record HasCome {C : Type 0} (kind : NodeKind C) (until : ℕ) (cut : Cut C) (i : ℕ) (y : C) : Type 0 where
  pub start : C
  pub stands : slice_get cut.consoles i ≡ Some start
  pub steps : StepsTo kind until start y

-- the laws. `kind` is any kind of console

-- consoles that all stand at clock 0 with nothing sent can go on
abbrev pub StartsWhole : {C : Type 0} → NodeKind C → Type 0
StartsWhole {C} kind =
    (consoles : List C) (delays : Delays) → IsCable (opening consoles delays) → All (IsFresh kind) consoles
    → CanGoOn kind (opening consoles delays)

-- what a run of a sound cut in time leaves can go on, once its dead signals are dropped
abbrev pub LeavesWhole : {C : Type 0} → NodeKind C → Type 0
LeavesWhole {C} kind =
    (cut : Cut C) (until : ℕ) → IsCable cut → IsSound kind cut → IsInTime kind cut → AllFit cut.sent
    → CanGoOn kind (live kind (run kind cut until))

-- a run keeps the consoles' number and the delays
abbrev pub KeepsCable : {C : Type 0} → NodeKind C → Type 0
KeepsCable {C} kind = (cut : Cut C) (until : ℕ) → HasSameCable cut (run kind cut until)

-- each console that a run leaves has come there by its own steps
abbrev pub ComesBySteps : {C : Type 0} → NodeKind C → Type 0
ComesBySteps {C} kind =
    (cut : Cut C) (until i : ℕ) (y : C) → IsCable cut → IsSound kind cut
    → slice_get (run kind cut until).consoles i ≡ Some y → HasCome kind until cut i y

-- a run brings each clock to its end
abbrev pub ReachesEnd : {C : Type 0} → NodeKind C → Type 0
ReachesEnd {C} kind =
    (cut : Cut C) (until i : ℕ) → IsCable cut → IsSound kind cut → i < count cut
    → until ≤ clock_at kind (run kind cut until) i

-- and by at most 511 cycles past it, where it wasn't further at the start
abbrev pub EndsNear : {C : Type 0} → NodeKind C → Type 0
EndsNear {C} kind =
    (cut : Cut C) (until i : ℕ) → IsCable cut → IsSound kind cut → clock_at kind cut i ≤ until + 511
    → clock_at kind (run kind cut until) i ≤ until + 511
