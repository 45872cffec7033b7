-- A frozen file is the text of what it says.
use Rattle.std.specs.Prelude.{◌≡◌, ℕ, ◌-◌, List, length, map}
use Rattle.gba_console.specs.Machine.{Machine}
use Rattle.gba_frozen.specs.Places.{placed}
use Rattle.gba_frozen.specs.Reading.{Draft}
use Rattle.gba_frozen.specs.declared.kinds.Setup.{Setup}
use Rattle.gba_frozen.specs.declared.places.Slot.TheVariants.{Past}
use Rattle.gba_frozen_text.specs.Text.{frozen_text}
use Rattle.gba_snapshot.specs.Console.{backup_in, draft_of}
use Rattle.gba_snapshot.specs.File.{frozen_file}
use Rattle.link_node.specs.declared.signal.Signal.{Signal}
use Rattle.link_order.specs.Cut.{Cut}
use Rattle.link_order.specs.declared.sent.Sent.{Sent}

-- what a frozen file is read for, of a job of such consoles that has this digest and so many cycles
abbrev pub setup_written : List ℕ → ℕ → List Machine → Setup
setup_written digest until machines = record {
  consoles = length machines;
  backups = map backup_in machines;
  digest = digest;
  until = until;
}

abbrev pub signal_of : Sent → ℕ × Signal
signal_of one = (one.sender, one.signal)

-- what the lines of a frozen file of these consoles come to
abbrev pub cut_draft : Cut Machine → Draft
cut_draft cut = record {
  at = placed (length cut.consoles - 1) Past;
  consoles = map draft_of cut.consoles;
  sent = map signal_of cut.sent;
}

-- whatever the job's cycles are, of which the text doesn't tell
abbrev pub FrozenIsText : Type 0
FrozenIsText =
    (digest : List ℕ) (until : ℕ) (cut : Cut Machine)
    → frozen_file digest cut ≡ frozen_text (setup_written digest until cut.consoles) (cut_draft cut)
