use Rattle.std.specs.Prelude.{ℕ, ◌≡◌, ◌+◌, Bool, true, false, List, [], None, Some, if◌then◌else◌, slice_get}
use Rattle.gba_serial.specs.SerialUnit.{SerialUnit}
use Rattle.gba_serial.specs.Tell.{outgoing, silent}
use Rattle.gba_serial.specs.Steps.{HalfwordWrite, all_written, ends, hear}
use Rattle.gba_serial.specs.declared.transfer.Transfer.{Transfer}
use Rattle.link_node.specs.declared.signal.Incoming.{Incoming}
use Rattle.link_node.specs.declared.signal.LinkMode.{LinkMode}
use Rattle.link_order.specs.NodeKind.{NodeKind}
use Rattle.link_order.specs.Cut.{Cut, count, hop}

-- this project's profile: what the laws on transfers know of a console. It has a serial unit, and is on or off

pub record UnitView (C : Type 0) : Type 0 where
  pub unit : C → SerialUnit
  pub is_on : C → Bool

-- A step of a console that is on: its unit hears the signals that are due, is written some times, the last write first,
-- and tells what it has to tell.
pub record Touches {C : Type 0} (kind : NodeKind C) (view : UnitView C) (x : C) (dues : List Incoming) : Type 0 where
  pub writes : List HalfwordWrite
  pub after : SerialUnit
  pub after_is : after ≡ all_written (kind.clock x) writes (hear (kind.clock x) dues (view.unit x))
  pub unit_is : view.unit (kind.next x dues).0 ≡ silent after
  pub told_is : (kind.next x dues).1 ≡ outgoing (kind.clock x) after
  pub stays : view.is_on (kind.next x dues).0 ≡ true

-- A step of a console that is off: its unit gets to know modes of its peers, and nothing is told.
pub record Rests {C : Type 0} (kind : NodeKind C) (view : UnitView C) (x : C) (dues : List Incoming) : Type 0 where
  pub known : List LinkMode
  pub unit_is : view.unit (kind.next x dues).0 ≡ record (view.unit x) { known = known }
  pub told_is : (kind.next x dues).1 ≡ None

-- A kind of console with a serial unit: between two steps the unit has nothing to tell, and each step does
-- one of these.
pub record HasUnit {C : Type 0} (kind : NodeKind C) (view : UnitView C) : Type 0 where
  pub quiet : (x : C) → silent (view.unit x) ≡ view.unit x
  pub touches : (x : C) (dues : List Incoming) → view.is_on x ≡ true → Touches kind view x dues
  pub rests : (x : C) (dues : List Incoming) → view.is_on x ≡ false → Rests kind view x dues

-- the transfers that a console records in a step: those that end in it
abbrev pub ends_in : {C : Type 0} → NodeKind C → UnitView C → C → List Incoming → List Transfer
ends_in kind view x dues = if view.is_on x then ends (kind.clock x) dues (view.unit x) else []

-- a unit that knows its place on a cable: its player, the number of consoles, and the delay from player 0 to
-- player 1 and back
pub record IsSeat {C : Type 0} (cut : Cut C) (i : ℕ) (u : SerialUnit) : Type 0 where
  pub player : u.player ≡ i
  pub count_is : u.count ≡ count cut
  pub round : u.round ≡ hop cut 0 1 + hop cut 1 0

abbrev pub IsSeated : {C : Type 0} → UnitView C → Cut C → Type 0
IsSeated {C} view cut = (i : ℕ) (x : C) → slice_get cut.consoles i ≡ Some x → IsSeat cut i (view.unit x)
