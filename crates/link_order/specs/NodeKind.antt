use Rattle.std.specs.Prelude.{ℕ, ◌≡◌, ◌+◌, ◌<◌, ◌≤◌, List, Option, IfSome}
use Rattle.link_node.specs.declared.signal.Incoming.{Incoming}
use Rattle.link_node.specs.declared.signal.Signal.{Signal}
use Rattle.link_node.specs.Due.{FitsWidths}

-- this project's profile: a kind of console, seen as plain records

-- the clock of a record, the clock at which its last step began, and one step: the record after it and its signal
pub record NodeKind (C : Type 0) : Type 0 where
  pub clock : C → ℕ
  pub was : C → ℕ
  pub next : C → List Incoming → C × Option Signal

-- the laws of a node, over all its records
pub record IsLawful {C : Type 0} (kind : NodeKind C) : Type 0 where
  pub rises : (x : C) (due : List Incoming) → kind.clock x < kind.clock (kind.next x due).0
  pub short : (x : C) (due : List Incoming) → kind.clock (kind.next x due).0 ≤ kind.clock x + 512
  pub moves : (x : C) (due : List Incoming) → kind.was (kind.next x due).0 ≡ kind.clock x
  pub bears : (x : C) (due : List Incoming) → IfSome (kind.next x due).1 (λ s. s.clock ≡ kind.clock x)
  pub fits : (x : C) (due : List Incoming) → IfSome (kind.next x due).1 FitsWidths

-- the kind that a node type is
abbrev pub kind_of : {C : Type 0} → (C → ℕ) → (C → ℕ) → (C → List Incoming → C × Option Signal) → NodeKind C
kind_of clock was next = record { clock = clock; was = was; next = next }
