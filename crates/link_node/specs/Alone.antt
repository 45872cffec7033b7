use Rattle.std.specs.Prelude.{ℕ, ◌<◌, List, [], Option, None}
use Rattle.link_node.specs.declared.signal.Incoming.{Incoming}
use Rattle.link_node.specs.declared.signal.Signal.{Signal}

-- this project's profile: steps of one console in a row

-- A console has come from x to here by steps that began below `end` and took nothing, and only the last has told
-- something. The clock of a console, and its step with what that tells, are named first.
pub data StepsAlone {C : Type 0} (clock : C → ℕ) (next : C → List Incoming → C × Option Signal) (end : ℕ) (x : C)
    : C → Option Signal → Type 0
  where
    Stays : StepsAlone clock next end x x None
    Steps : (y : C) → StepsAlone clock next end x y None → clock y < end
        → StepsAlone clock next end x (next y []).0 (next y []).1
