use Rattle.std.specs.Prelude.{ℕ, ◌≡◌, ◌≢◌, ◌+◌, ◌<◌, ◌≤◌, List, Option, slice_set}
use Rattle.link_node.specs.Alone.{StepsAlone}
use Rattle.link_node.specs.declared.signal.Signal.{Signal}
use Rattle.link_order.specs.declared.sent.Sent.{Sent}
use Rattle.link_order.specs.NodeKind.{NodeKind}
use Rattle.link_order.specs.Cut.{Cut, clock_at}
use Rattle.link_order.specs.GlobalOrder.{step_of}

-- this project's profile: steps of one console in a row; only private functions cite these

-- a signal of a peer that arrives after the clock `was` arrives at `end` or later
abbrev pub ArrivesFrom : (ℕ → ℕ → ℕ) → ℕ → ℕ → ℕ → Sent → Type 0
ArrivesFrom between player was end one =
    one.sender ≢ player → was < one.signal.clock + between one.sender player
    → end ≤ one.signal.clock + between one.sender player

-- steps that took nothing, of console i among others, of which it is the only one that steps
pub record Idles {C : Type 0} (kind : NodeKind C) (end i : ℕ) (x : C) (old new : List C) (told : Option Signal) : Type 0
  where
    pub y : C
    pub alone : StepsAlone kind.clock kind.next end x y told
    pub placed : new ≡ slice_set old i y
    pub rises : kind.clock x < end → kind.clock x < kind.clock y

-- a cut has come to another one by steps of player i's console that began below `end`
pub data GoesAlone {C : Type 0} (kind : NodeKind C) (i end : ℕ) (cut : Cut C) : Cut C → Type 0 where
  Stands : GoesAlone kind i end cut cut
  Goes : (d : Cut C) → GoesAlone kind i end cut d → clock_at kind d i < end
      → GoesAlone kind i end cut (step_of kind d i)
