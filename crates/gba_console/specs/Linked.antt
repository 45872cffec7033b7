use Rattle.std.specs.Prelude.{ℕ, ◌≡◌, ◌+◌, not, List, [], ◌∷◌, length, Option, Some, slice_get}
use Rattle.gba_agreement.specs.Agreement.{AreLinked}
use Rattle.gba_agreement.specs.UnitView.{UnitView, ends_in}
use Rattle.gba_io.specs.Ended.{Ended, with_transfer}
use Rattle.gba_io.specs.declared.made.Room.{Room}
use Rattle.gba_serial.specs.Tell.{silent}
use Rattle.gba_serial.specs.declared.transfer.Transfer.{Transfer}
use Rattle.link_node.specs.declared.signal.Incoming.{Incoming}
use Rattle.link_node.specs.declared.delays.Delays.{Delays}
use Rattle.link_node.specs.Delays.{hop_of}
use Rattle.link_order.specs.Cut.{IsCable, opening}
use Rattle.gba_console.specs.Alone.{console_kind}
use Rattle.gba_image.specs.declared.backup.Backup.{Backup}
use Rattle.gba_console.specs.Machine.{Machine, is_off, reset, without_limit}
use Rattle.gba_console.specs.Step.{stepped}
use Rattle.gba_console.specs.declared.keys.KeyState.{KeyState}

-- A console as the laws on transfers see it: its serial unit, which has nothing to tell between two steps, since the
-- next one begins with that.
abbrev pub console_view : UnitView Machine
console_view = record { unit = λ m. silent m.board.core.serial; is_on = λ m. not (is_off m) }

-- What the laws call recorded is what a console counts, and keeps where its transfers are asked for: those that end in
-- a step, one after another.
abbrev pub all_ended : List Transfer → Ended → Ended
all_ended [] e = e
all_ended (transfer ∷ transfers) e = all_ended transfers (with_transfer (Some transfer) e)

abbrev pub RecordsEnds : Type 0
RecordsEnds =
    (dues : List Incoming) (m : Machine)
    → (stepped dues m).board.ended ≡ all_ended (ends_in console_kind console_view m dues) m.board.ended

-- a console at reset in its place on a cable with this way from player 0 to player 1 and back, whatever its limit
pub record IsAtReset (player count round : ℕ) (m : Machine) : Type 0 where
  pub off : ℕ
  pub bios : List ℕ
  pub cart : Option (List ℕ)
  pub save : Option (List ℕ)
  pub backup : Backup
  pub keys : List KeyState
  pub room : Room
  pub is : without_limit m ≡ without_limit (reset player count round off bios cart save backup keys room)

-- Consoles at reset, with nothing sent, are a cut from which the laws speak.
abbrev pub StartsLinked : Type 0
StartsLinked =
    (consoles : List Machine) (delays : Delays) → IsCable (opening consoles delays)
    → ((i : ℕ) (m : Machine) → slice_get consoles i ≡ Some m
    → IsAtReset i (length consoles) (hop_of delays 0 1 + hop_of delays 1 0) m)
    → AreLinked console_kind console_view (opening consoles delays)
