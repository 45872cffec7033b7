use Rattle.std.specs.Prelude.{ℕ, true, ◌≡◌, ◌≤◌, List, length, All}
use Rattle.link_node.specs.Delays.{AreDelays}
use Rattle.link_node.specs.Due.{FitsWidths}
use Rattle.link_order.specs.declared.sent.Sent.{Sent}
use Rattle.link_order.specs.NodeKind.{NodeKind}
use Rattle.link_order.specs.Order.{IsSorted}
use Rattle.link_node.specs.declared.delays.Delays.{Delays}
use Rattle.link_order.specs.Cut.{Cut, plain_cut, is_live, IsSound, IsCable}

-- the signals that are on their way, with the cable's delays
pub record Flight : Type 0 where
  pub delays : Delays
  pub sent : List Sent

-- these nodes with the signals that are on their way
abbrev pub cut_of : {N : Type 0} → List N → Flight → Cut N
cut_of nodes flight = record { consoles = nodes; delays = flight.delays; sent = flight.sent }

-- a cut with other signals on their way
abbrev pub with_sent : {N : Type 0} → List Sent → Cut N → Cut N
with_sent sent cut = record { consoles = cut.consoles; delays = cut.delays; sent = sent }

-- each signal can still be taken by some other console
abbrev pub AllLive : {C : Type 0} → NodeKind C → Cut C → Type 0
AllLive kind cut = All (λ (one : Sent). is_live kind cut one ≡ true) cut.sent

-- the parts of each signal fit their widths
abbrev pub AllFit : List Sent → Type 0
AllFit sent = All (λ (one : Sent). FitsWidths one.signal) sent

-- what holds of every cut that the program has: it is sound, its signals are live, and there is room
pub record IsKept {N C : Type 0} (kind : NodeKind C)
    (plain : N → C) (cut : Cut N) (sent_room due_room : ℕ) : Type 0 where
  pub cable : IsCable (plain_cut plain cut)
  pub delays : AreDelays cut.delays
  pub sound : IsSound kind (plain_cut plain cut)
  pub awaited : AllLive kind (plain_cut plain cut)
  pub widths : AllFit cut.sent
  pub room_of_sent : 16384 ≤ sent_room
  pub room_of_due : 16384 ≤ due_room

-- what holds of every list of signals that is kept beside its nodes
pub record IsFlight (flight : Flight) (sent_room due_room : ℕ) : Type 0 where
  pub delays : AreDelays flight.delays
  pub few : length flight.sent ≤ 16384
  pub sorted : IsSorted flight.sent
  pub widths : AllFit flight.sent
  pub room_of_sent : 16384 ≤ sent_room
  pub room_of_due : 16384 ≤ due_room
