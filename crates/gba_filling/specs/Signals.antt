-- The live signals with their senders.
use Rattle.std.specs.Prelude.{◌≡◌, ℕ, All, Bool, nat_lt, List, length, map, take}
use Rattle.link_node.specs.Due.{FitsWidths}
use Rattle.link_node.specs.declared.signal.Signal.{Signal}
use Rattle.link_order.specs.declared.sent.Sent.{Sent}

-- the signals, and whether there were more than are kept
pub record LiveSignals : Type 0 where
  pub sent : List Sent
  pub more : Bool

-- the most signals that are kept: no run has as many
abbrev pub most_signals : ℕ
most_signals = 16384

abbrev pub sent_of : ℕ × Signal → Sent
sent_of one = record { sender = one.0; signal = one.1 }

-- the parts of each signal fit their widths
abbrev pub AllFit : List Sent → Type 0
AllFit sent = All (λ (one : Sent). FitsWidths one.signal) sent

-- they are the first of these, and whether there are more is told
pub record AreSignals (all : List (ℕ × Signal)) (s : LiveSignals) : Type 0 where
  pub sent : s.sent ≡ take most_signals (map sent_of all)
  pub more : s.more ≡ nat_lt most_signals (length all)
