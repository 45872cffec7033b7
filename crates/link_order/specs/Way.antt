use Rattle.std.specs.Prelude.{ℕ, ◌==◌, ◌++◌, if◌then◌else◌, List, [], ◌∷◌, length, take, Option, None, Some}
use Rattle.std.specs.Prelude.{slice_get, option_to_list}
use Rattle.std.proofs.Common.{zero, suc}
use Rattle.link_node.specs.declared.signal.Incoming.{Incoming}
use Rattle.link_node.specs.declared.signal.Signal.{Signal}
use Rattle.link_order.specs.NodeKind.{NodeKind}
use Rattle.link_order.specs.Order.{from}
use Rattle.link_order.specs.Cut.{Cut, clock_at}
use Rattle.link_order.specs.GlobalOrder.{due_at, step_of}
use Rattle.link_order.specs.Interleaving.{moment}

-- this project's profile: one console's way through a list of steps

-- console i after k of its own steps, None where there is no such console, and what it has sent by then
abbrev pub console_after : {C : Type 0} → NodeKind C → Cut C → List ℕ → ℕ → ℕ → Option C
console_after kind cut ps i k = slice_get (moment kind cut ps i k).consoles i

abbrev pub signals_after : {C : Type 0} → NodeKind C → Cut C → List ℕ → ℕ → ℕ → List Signal
signals_after kind cut ps i k = from i (moment kind cut ps i k).sent

-- one step as the peers see it: the clock after it, and what it told
pub record Move : Type 0 where
  pub clock : ℕ
  pub tells : Option Signal

-- what a step of a console tells
abbrev pub told_by : {C : Type 0} → NodeKind C → Option C → List Incoming → Option Signal
told_by kind None signals = None
told_by kind (Some x) signals = (kind.next x signals).1

-- the next step of player i's console
abbrev pub move_of : {C : Type 0} → NodeKind C → Cut C → ℕ → Move
move_of kind cut i = record {
  clock = clock_at kind (step_of kind cut i) i;
  tells = told_by kind (slice_get cut.consoles i) (due_at kind cut i);
}

-- the steps of player i among these, in turn
abbrev pub moves_of : {C : Type 0} → NodeKind C → Cut C → List ℕ → ℕ → List Move
moves_of kind cut [] i = []
moves_of kind cut (p ∷ rest) i =
    if p == i then move_of kind cut i ∷ moves_of kind (step_of kind cut p) rest i
    else moves_of kind (step_of kind cut p) rest i

-- the clock after so many of these moves, from this clock on
abbrev pub clock_after : ℕ → List Move → ℕ → ℕ
clock_after clock moves zero = clock
clock_after clock [] (suc k) = clock
clock_after clock (move ∷ rest) (suc k) = clock_after move.clock rest k

-- all that these moves tell
abbrev pub told_in : List Move → List Signal
told_in [] = []
told_in (move ∷ rest) = option_to_list move.tells ++ told_in rest

-- how much the first k moves tell
abbrev pub told_count : List Move → ℕ → ℕ
told_count moves k = length (told_in (take k moves))
