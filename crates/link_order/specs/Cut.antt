use Rattle.std.specs.Prelude.{ℕ, Bool, false, not, ◌≡◌, ◌≢◌, ◌+◌, ◌<◌, ◌≤◌, ◌&&◌, ◌||◌, ◌==◌, nat_lt, List, [], length}
use Rattle.std.specs.Prelude.{map, filter, slice_index, All}
use Rattle.std.proofs.Common.{zero, suc}
use Rattle.link_node.specs.declared.delays.Delays.{Delays}
use Rattle.link_node.specs.Delays.{hop_of}
use Rattle.link_order.specs.declared.sent.Sent.{Sent}
use Rattle.link_order.specs.NodeKind.{NodeKind}
use Rattle.link_order.specs.Order.{IsOrdered}

-- this project's profile: a cut of a run, and what makes it sound

-- the consoles by player, the cable's delays, and signals that were sent, by clock, then by sender
pub record Cut (C : Type 0) : Type 0 where
  pub consoles : List C
  pub delays : Delays
  pub sent : List Sent

-- the delay from one console to another. Nothing else looks at the cut's delays
abbrev pub hop : {C : Type 0} → Cut C → ℕ → ℕ → ℕ
hop cut sender receiver = hop_of cut.delays sender receiver

-- how many consoles there are, and the two clocks of one of them
abbrev pub count : {C : Type 0} → Cut C → ℕ
count cut = length cut.consoles

abbrev pub clock_at : {C : Type 0} → NodeKind C → Cut C → ℕ → ℕ
clock_at kind cut i = slice_index (map kind.clock cut.consoles) i

abbrev pub was_at : {C : Type 0} → NodeKind C → Cut C → ℕ → ℕ
was_at kind cut i = slice_index (map kind.was cut.consoles) i

-- whether some other player below `count` can still take this signal: it arrives after that player's last step began
abbrev pub is_awaited : (ℕ → ℕ → ℕ) → (ℕ → ℕ) → ℕ → Sent → Bool
is_awaited between was zero one = false
is_awaited between was (suc i) one =
    (not (i == one.sender) && nat_lt (was i) (one.signal.clock + between one.sender i)) || is_awaited between was i one

abbrev pub is_live : {C : Type 0} → NodeKind C → Cut C → Sent → Bool
is_live kind cut one = is_awaited (hop cut) (was_at kind cut) (count cut) one

-- the cut with its live signals alone. Cuts with one such cut are the same
abbrev pub live : {C : Type 0} → NodeKind C → Cut C → Cut C
live kind cut = record { consoles = cut.consoles; delays = cut.delays; sent = filter (is_live kind cut) cut.sent }

-- a sound signal: its sender has stepped since, and what any other console may still send arrives at the sender after
-- that step began
pub record IsSoundSignal {C : Type 0} (kind : NodeKind C) (cut : Cut C) (one : Sent) : Type 0 where
  pub from_player : one.sender < count cut
  pub sent_before : one.signal.clock < clock_at kind cut one.sender
  pub allowed : (i : ℕ) → i < count cut → i ≢ one.sender → one.signal.clock < clock_at kind cut i + hop cut i one.sender

-- a sound cut: no console is further ahead of another than the delay from there and a step, each last step took at most
-- 512 cycles, and the signals are sound and in order
pub record IsSound {C : Type 0} (kind : NodeKind C) (cut : Cut C) : Type 0 where
  pub near : (i j : ℕ) → i < count cut → j < count cut → i ≢ j
      → clock_at kind cut i < clock_at kind cut j + hop cut j i + 512
  pub begun : (i : ℕ) → i < count cut → was_at kind cut i ≤ clock_at kind cut i
  pub short : (i : ℕ) → i < count cut → clock_at kind cut i ≤ was_at kind cut i + 512
  pub signals : All (IsSoundSignal kind cut) cut.sent
  pub ordered : IsOrdered cut.sent

-- the delay from each console to each other one is at least a cycle
abbrev pub HasDelays : {C : Type 0} → Cut C → Type 0
HasDelays cut = (i j : ℕ) → i < count cut → j < count cut → i ≢ j → 0 < hop cut i j

-- none of these delays is longer than this
abbrev pub HasDelaysWithin : {C : Type 0} → ℕ → Cut C → Type 0
HasDelaysWithin most cut = (i j : ℕ) → i < count cut → j < count cut → i ≢ j → hop cut i j ≤ most

-- one to four consoles, and delays from 1 to 1,024 cycles. One console alone has no delay
pub record IsCable {C : Type 0} (cut : Cut C) : Type 0 where
  pub some_console : 0 < count cut
  pub at_most_four : count cut ≤ 4
  pub some_delay : HasDelays cut
  pub short_delay : HasDelaysWithin 1024 cut

-- a cut in time: what a console may still send arrives after each other console's last step began
abbrev pub IsInTime : {C : Type 0} → NodeKind C → Cut C → Type 0
IsInTime kind cut =
    (i j : ℕ) → i < count cut → j < count cut → i ≢ j → was_at kind cut i < clock_at kind cut j + hop cut j i

-- the cut of the plain records of a cut's nodes
abbrev pub plain_cut : {N C : Type 0} → (N → C) → Cut N → Cut C
plain_cut plain cut = record { consoles = map plain cut.consoles; delays = cut.delays; sent = cut.sent }

-- a console that hasn't stepped
pub record IsFresh {C : Type 0} (kind : NodeKind C) (x : C) : Type 0 where
  pub clock_is : kind.clock x ≡ 0
  pub was_is : kind.was x ≡ 0

-- consoles with no signal on its way
abbrev pub opening : {N : Type 0} → List N → Delays → Cut N
opening consoles delays = record { consoles = consoles; delays = delays; sent = [] }
