use Rattle.std.specs.Prelude.{ℕ, ◌<◌, List, All}
use Rattle.link_node.specs.declared.signal.Incoming.{Incoming}
use Rattle.link_node.specs.Due.{InOrder, IsDue}
use Rattle.link_order.specs.NodeKind.{NodeKind}

-- this project's profile: the steps of one console in a run

-- A console may make a step to `until` with these signals: it begins before, and they stand in order, each of them one
-- that such a step takes.
pub record MayTurn {C : Type 0} (kind : NodeKind C) (until : ℕ) (x : C) (dues : List Incoming) : Type 0 where
  pub early : kind.clock x < until
  pub ordered : InOrder dues
  pub taken : All (IsDue (kind.was x) (kind.clock x)) dues

-- A console has come from x to here by such steps.
pub data StepsTo {C : Type 0} (kind : NodeKind C) (until : ℕ) (x : C) : C → Type 0 where
  Stays : StepsTo kind until x x
  Steps : (y : C) (dues : List Incoming) → StepsTo kind until x y → MayTurn kind until y dues
      → StepsTo kind until x (kind.next y dues).0
