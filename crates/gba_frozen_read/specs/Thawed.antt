-- What is handed on of a frozen file, and what the whole file comes to.
use Rattle.std.specs.Prelude.{◌≡◌, ◌<◌, ◌≤◌, ℕ, ◌+◌, Bool, true, false, List, length, Option, Some, Result, Ok, Err, if◌then◌else◌}
use Rattle.gba_text.specs.Languages.{answer_of}
use Rattle.gba_text.specs.Steps.{taken}
use Rattle.gba_text.specs.declared.kinds.LineError.{LineError}
use Rattle.link_node.specs.Packing.{signal_in}
use Rattle.gba_frozen.specs.Lines.{Said, Nothing, Values, QueueBytes, WaveBytes, MemoryBytes, Colours, Live, drawn_end, most_of_queue}
use Rattle.gba_frozen.specs.Places.{backup_of, is_row_place}
use Rattle.gba_frozen.specs.Reading.{Draft, frozen_language, is_past, judged, read_at, with_said}
use Rattle.gba_frozen.specs.Rows.{all_fit, count_of, is_row}
use Rattle.gba_frozen.specs.declared.kinds.Setup.{Setup}
use Rattle.gba_frozen.specs.declared.kinds.ThawKind.{ThawKind}
use Rattle.gba_frozen.specs.declared.places.Place.{Place}
use Rattle.gba_frozen.specs.declared.places.Slot.{Slot}
use Rattle.gba_frozen.specs.declared.places.Slot.TheVariants.{Version, Digest, Fixed, Signals, End, Past}
use Rattle.gba_frozen.specs.declared.rows.Row.TheVariants as row

-- What is said of a player's console, or of the file, is in its ranges: the values of a row, the number of a queue's
-- bytes, a place of a memory, a drawn line, a sender. A live signal is that of two numbers.
abbrev pub SaidFits : Setup → ℕ → Said → Type 0
SaidFits setup player Nothing = Unit {0}
SaidFits setup player (Values which values) =
    (is_row which ≡ true) × (length values ≡ count_of which) × (all_fit setup.until which 0 values ≡ true)
SaidFits setup player (QueueBytes queue current bytes) = (queue < 2) × (length bytes ≤ most_of_queue)
SaidFits setup player (WaveBytes bank bytes) = (bank < 2) × (length bytes ≡ 16)
SaidFits setup player (MemoryBytes place bytes) =
    (is_row_place (backup_of setup player) place ≡ true) × (length bytes ≡ 32)
SaidFits setup player (Colours line colours) = (line < drawn_end) × (length colours ≡ 240)
SaidFits setup player (Live sender signal) =
    (sender < setup.consoles) × ((head : ℕ) × (words : ℕ) × (signal_in head words ≡ Some signal))

-- whether the console of the place's player has begun
abbrev pub is_begun : Slot → Bool
is_begun Version = false
is_begun Digest = false
is_begun (Fixed row.Heading) = false
is_begun _ = true

-- whether all consoles are over
abbrev pub is_behind_consoles : Slot → Bool
is_behind_consoles Signals = true
is_behind_consoles End = true
is_behind_consoles Past = true
is_behind_consoles _ = false

-- so many consoles have begun where the file is read on there
pub record CountedAt (consoles : ℕ) (at : Place) (count : ℕ) : Type 0 where
  pub player : at.player < consoles
  pub begun : count ≡ (if is_begun at.slot then at.player + 1 else at.player)
  pub all : is_behind_consoles at.slot ≡ true → at.player + 1 ≡ consoles

abbrev pub IsCounted : Setup → Draft → Type 0
IsCounted setup d = CountedAt setup.consoles d.at (length d.consoles)

-- what the lines come to with a line that says this, behind which the file is read on there
abbrev pub with_next : Place → Said → Draft → Draft
with_next at said d = with_said said (record d { at = at })

-- there is such a line behind the lines so far
pub record IsNext (setup : Setup) (d : Draft) (at : Place) (said : Said) : Type 0 where
  pub line : List ℕ
  pub read : read_at setup d.at line ≡ Ok (taken said at)
  pub fits : SaidFits setup at.player said
  pub before : IsCounted setup d
  pub behind : IsCounted setup (with_next at said d)

-- A file whose lines are all right comes to what is held then, if that passes the test of the whole, and is else
-- refused at its last line; any other file has its refusal. This is so whatever the test is.
unfoldable pub IsThawed : (Draft → Type 0) → (A : Type 0) → Setup → List ℕ → Result ℕ (LineError ThawKind) → Type 0
IsThawed holds A setup bytes (Ok number) =
    (d : Draft) × holds d × (is_past d.at.slot ≡ true) × (length d.consoles ≡ setup.consoles)
    × ((whole_of : Draft → Option A) → answer_of (frozen_language setup whole_of) bytes ≡ judged number (whole_of d))
IsThawed holds A setup bytes (Err e) =
    (whole_of : Draft → Option A) → answer_of (frozen_language setup whole_of) bytes ≡ Err e
