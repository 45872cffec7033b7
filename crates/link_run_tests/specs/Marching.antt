use Rattle.std.specs.Prelude.{ℕ, ◌+◌, ◌<◌, ◌≤◌, List, Option, None}
use Rattle.std.proofs.Common.{arith}
use Rattle.link_node.specs.declared.signal.Incoming.{Incoming}
use Rattle.link_node.specs.declared.signal.Signal.{Signal}

-- a node for tests that only keeps time

pub record Marched : Type 0 where
  pub clock : ℕ
  pub was : ℕ

abbrev pub marched_next : Marched → List Incoming → Marched × Option Signal
marched_next r due = (record { clock = r.clock + 3; was = r.clock }, None)

pub marched_rises : (r : Marched) (due : List Incoming) → r.clock < (marched_next r due).0.clock
marched_rises r due = omega arith

pub marched_short : (r : Marched) (due : List Incoming) → (marched_next r due).0.clock ≤ r.clock + 512
marched_short r due = omega arith
