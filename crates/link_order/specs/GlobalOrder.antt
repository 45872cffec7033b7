use Rattle.std.specs.Prelude.{ℕ, ◌+◌, ◌-◌, nat_lt, if◌then◌else◌, List, [], ◌∷◌, Option, None, Some, slice_get}
use Rattle.std.specs.Prelude.{slice_set}
use Rattle.std.proofs.Common.{zero, suc}
use Rattle.link_node.specs.declared.signal.Incoming.{Incoming}
use Rattle.link_node.specs.declared.signal.Signal.{Signal}
use Rattle.link_order.specs.declared.sent.Sent.{Sent}
use Rattle.link_order.specs.NodeKind.{NodeKind}
use Rattle.link_order.specs.Order.{place_sent, from}
use Rattle.link_order.specs.Due.{due}
use Rattle.link_order.specs.Cut.{Cut, hop, count, clock_at, was_at}

-- this project's profile: the global order, which always steps the console that is furthest behind

-- the player below `count` with the least clock, at a tie the least number
abbrev pub least_below : (ℕ → ℕ) → ℕ → ℕ
least_below clock zero = 0
least_below clock (suc i) =
    if nat_lt (clock i) (clock (least_below clock i)) then i else least_below clock i

abbrev pub least : {C : Type 0} → NodeKind C → Cut C → ℕ
least kind cut = least_below (clock_at kind cut) (count cut)

-- what the next step of player i takes, of all that was sent
abbrev pub due_at : {C : Type 0} → NodeKind C → Cut C → ℕ → List Incoming
due_at kind cut i = due (hop cut) (λ j. from j cut.sent) i (was_at kind cut i) (clock_at kind cut i) (count cut)

-- a step's signal joins those that were sent
abbrev pub with_signal : ℕ → Option Signal → List Sent → List Sent
with_signal player None sent = sent
with_signal player (Some signal) sent = place_sent (record { sender = player; signal = signal }) sent

-- the cut after player i's console has made a step with these due signals. With no such player nothing happens
abbrev pub step_from : {C : Type 0} → NodeKind C → Cut C → ℕ → List Incoming → Option C → Cut C
step_from kind cut i signals None = cut
step_from kind cut i signals (Some x) = record {
  consoles = slice_set cut.consoles i (kind.next x signals).0;
  delays = cut.delays;
  sent = with_signal i (kind.next x signals).1 cut.sent;
}

abbrev pub step_with : {C : Type 0} → NodeKind C → Cut C → ℕ → List Incoming → Cut C
step_with kind cut i signals = step_from kind cut i signals (slice_get cut.consoles i)

-- the cut after player i's step with what is due
abbrev pub step_of : {C : Type 0} → NodeKind C → Cut C → ℕ → Cut C
step_of kind cut i = step_with kind cut i (due_at kind cut i)

-- one step of the global order
abbrev pub step : {C : Type 0} → NodeKind C → Cut C → Cut C
step kind cut = step_of kind cut (least kind cut)

-- the cycles that the consoles below `count` have left to `until`, all together
abbrev pub cycles_left_below : (ℕ → ℕ) → ℕ → ℕ → ℕ
cycles_left_below clock until zero = 0
cycles_left_below clock until (suc i) = (until - clock i) + cycles_left_below clock until i

abbrev pub cycles_left : {C : Type 0} → NodeKind C → Cut C → ℕ → ℕ
cycles_left kind cut until = cycles_left_below (clock_at kind cut) until (count cut)

-- the players that step, in turn, while the least clock is below `until`; at most so many
unfoldable pub trace_of : {C : Type 0} → NodeKind C → ℕ → Cut C → ℕ → List ℕ
trace_of kind zero cut until = []
trace_of kind (suc most) cut until =
    if nat_lt (clock_at kind cut (least kind cut)) until
    then least kind cut ∷ trace_of kind most (step kind cut) until
    else []

-- the global order's steps while the least clock is below `until`. Each step leaves fewer cycles, so that
-- is all of them
abbrev pub trace : {C : Type 0} → NodeKind C → Cut C → ℕ → List ℕ
trace kind cut until = trace_of kind (cycles_left kind cut until) cut until

-- the cut after these players have stepped in turn, each with what is due
unfoldable pub after_turns : {C : Type 0} → NodeKind C → Cut C → List ℕ → Cut C
after_turns kind cut [] = cut
after_turns kind cut (i ∷ rest) = after_turns kind (step_of kind cut i) rest

-- the cut after the global order's steps to `until`
abbrev pub run : {C : Type 0} → NodeKind C → Cut C → ℕ → Cut C
run kind cut until = after_turns kind cut (trace kind cut until)
