use Rattle.std.specs.Prelude.{◌≡◌, ℕ, List, [], ◌∷◌}
use Rattle.link_node.specs.declared.delays.Delays.{Delays}
use Rattle.link_order.specs.Cut.{Cut}
use Rattle.link_order.specs.GlobalOrder.{run as global_run}
use Rattle.link_order.specs.NodeKind.{NodeKind, kind_of}
use Rattle.link_order.specs.declared.sent.Sent.{Sent}
use Rattle.gba_console.specs.Machine.{Machine, clock_of}
use Rattle.gba_console.specs.Run.{run_to}
use Rattle.gba_console.specs.Step.{node_next}

-- a console as the global order sees it
abbrev pub console_kind : NodeKind Machine
console_kind = kind_of clock_of (λ m. m.was) node_next

abbrev pub alone : Machine → Delays → List Sent → Cut Machine
alone m delays sent = record { consoles = m ∷ []; delays = delays; sent = sent }

-- The global order's run of a console alone is the run of that console: nothing is ever due in it.
abbrev pub RunsAlone : Type 0
RunsAlone =
    (until : ℕ) (delays : Delays) (sent : List Sent) (m : Machine)
    → (global_run console_kind (alone m delays sent) until).consoles ≡ run_to until m ∷ []
