-- A frozen file as a language of lines: which lines may follow one another, what they come to, and which
-- one is refused.
use Rattle.std.specs.Prelude.{ℕ, ◌+◌, ◌-◌, ◌==◌, Bool, true, false, ◌&&◌, nat_lt, List, [], ◌∷◌, ◌++◌, length, take, slice_index, Option, Some, None, Result, Ok, Err, if◌then◌else◌}
use Rattle.gba_text.specs.Languages.{Language, error_at}
use Rattle.gba_text.specs.Lines.{onto_front}
use Rattle.gba_text.specs.Steps.{◌>>=◌, Taken, taken}
use Rattle.gba_text.specs.declared.kinds.LineError.{LineError}
use Rattle.link_node.specs.declared.signal.Signal.{Signal}
use Rattle.gba_numbers.specs.Numbers.{ConsoleNumbers, numbers_at_first, with_value}
use Rattle.gba_numbers.specs.declared.fields.BoardField.TheVariants as board
use Rattle.gba_numbers.specs.declared.fields.Field.{Field}
use Rattle.gba_numbers.specs.declared.fields.Field.TheVariants as console
use Rattle.gba_frozen.specs.Lines.{Said, Values, QueueBytes, WaveBytes, MemoryBytes, Colours, Live, line_said}
use Rattle.gba_frozen.specs.Places.{first_place, next_place, place_for, placed}
use Rattle.gba_frozen.specs.Rows.{field_of}
use Rattle.gba_frozen.specs.Spelling.{pieces}
use Rattle.gba_frozen.specs.declared.kinds.Setup.{Setup}
use Rattle.gba_frozen.specs.declared.kinds.ThawKind.{ThawKind}
use Rattle.gba_frozen.specs.declared.kinds.ThawKind.TheVariants as kind
use Rattle.gba_frozen.specs.declared.places.MemoryPlace.{MemoryPlace}
use Rattle.gba_frozen.specs.declared.places.Place.{Place}
use Rattle.gba_frozen.specs.declared.places.Slot.{Slot}
use Rattle.gba_frozen.specs.declared.places.Slot.TheVariants as slot
use Rattle.gba_frozen.specs.declared.rows.Row.{Row}
use Rattle.gba_frozen.specs.declared.rows.Row.TheVariants as row

-- The lines of a file, each with the line feed (10) that ends it; the last one has none where the file doesn't end in
-- one. Nothing else ends a line.
unfoldable pub fed_lines : List ℕ → List (List ℕ)
fed_lines [] = []
fed_lines (b ∷ bs) = if b == 10 then (b ∷ []) ∷ fed_lines bs else onto_front b (fed_lines bs)

-- a line without its line feed, if it has one
unfoldable pub without_feed : List ℕ → Option (List ℕ)
without_feed line =
    if nat_lt 0 (length line) && slice_index line (length line - 1) == 10 then Some (take (length line - 1) line)
    else None

-- where a file is read on behind a line
unfoldable pub after_said : Setup → Place → Said → Place
after_said setup at (MemoryBytes place bytes) = placed at.player (slot.Memory (Some place))
after_said setup at (Colours line colours) = placed at.player (slot.Drawn (Some line))
after_said setup at (Live sender signal) = placed at.player slot.Signals
after_said setup at _ = next_place setup at

-- what a line says, and where the file is read on behind it
abbrev pub said_at : Setup → Place → List ℕ → Result (Taken Place Said) ThawKind
said_at setup at line = line_said setup at line >>= (λ said. Ok (taken said (after_said setup at said)))

abbrev pub fed_said : Setup → Place → Option (List ℕ) → Result (Taken Place Said) ThawKind
fed_said setup at None = Err kind.Spelling
fed_said setup at (Some line) = said_at setup (place_for setup (pieces line) at) line

-- the same of a line with its line feed, at the place behind the line before: a line that isn't ended is refused
unfoldable pub read_at : Setup → Place → List ℕ → Result (Taken Place Said) ThawKind
read_at setup at line = fed_said setup at (without_feed line)

-- What the lines of a console come to so far: its numbers, the bytes of its memories that were given, and its
-- drawn lines.
pub record ConsoleDraft : Type 0 where
  pub numbers : ConsoleNumbers
  pub memory : List (MemoryPlace × List ℕ)
  pub drawn : List (ℕ × List ℕ)

abbrev pub console_at_first : ConsoleDraft
console_at_first = record { numbers = numbers_at_first; memory = []; drawn = [] }

-- with the values of a row, from one of its parts on
unfoldable pub with_values : Row → ℕ → List ℕ → ConsoleNumbers → ConsoleNumbers
with_values which part [] n = n
with_values which part (value ∷ values) n =
    with_values which (part + 1) values (with_value (field_of which part) value n)

-- with bytes, from a place on
abbrev pub queue_byte : ℕ → ℕ → Field
queue_byte queue place = console.QueueByte queue place

abbrev pub wave_byte : ℕ → ℕ → Field
wave_byte bank place = console.Board (board.WaveByte bank place)

unfoldable pub with_bytes : (ℕ → Field) → ℕ → List ℕ → ConsoleNumbers → ConsoleNumbers
with_bytes field place [] n = n
with_bytes field place (byte ∷ bytes) n = with_bytes field (place + 1) bytes (with_value (field place) byte n)

abbrev pub with_queue_line : ℕ → ℕ → List ℕ → ConsoleNumbers → ConsoleNumbers
with_queue_line queue current bytes n =
    with_bytes (queue_byte queue) 0 bytes
    (with_value (console.Board (board.QueueLength queue)) (length bytes)
    (with_value (console.Board (board.QueueCurrent queue)) current n))

-- with what a line says of it
unfoldable pub with_line_of : Said → ConsoleDraft → ConsoleDraft
with_line_of (Values which values) d = record d { numbers = with_values which 0 values d.numbers }
with_line_of (QueueBytes queue current bytes) d = record d { numbers = with_queue_line queue current bytes d.numbers }
with_line_of (WaveBytes bank bytes) d = record d { numbers = with_bytes (wave_byte bank) 0 bytes d.numbers }
with_line_of (MemoryBytes place bytes) d = record d { memory = d.memory ++ (place, bytes) ∷ [] }
with_line_of (Colours line colours) d = record d { drawn = d.drawn ++ (line, colours) ∷ [] }
with_line_of _ d = d

-- What the lines of a file come to so far: where it is read on, its consoles, of which the last one's lines may not be
-- over, and the live signals with their senders.
pub record Draft : Type 0 where
  pub at : Place
  pub consoles : List ConsoleDraft
  pub sent : List (ℕ × Signal)

abbrev pub nothing_read : Draft
nothing_read = record { at = first_place; consoles = []; sent = [] }

unfoldable pub with_last : (ConsoleDraft → ConsoleDraft) → List ConsoleDraft → List ConsoleDraft
with_last change [] = []
with_last change (last ∷ []) = change last ∷ []
with_last change (console ∷ next ∷ consoles) = console ∷ with_last change (next ∷ consoles)

-- the lines of a console begin with the version of the state file
unfoldable pub with_said : Said → Draft → Draft
with_said (Live sender signal) d = record d { sent = d.sent ++ (sender, signal) ∷ [] }
with_said (Values row.Heading values) d = record d { consoles = d.consoles ++ console_at_first ∷ [] }
with_said said d = record d { consoles = with_last (with_line_of said) d.consoles }

-- the draft with a line
unfoldable pub with_line : Setup → Draft → List ℕ → Result Draft ThawKind
with_line setup d line = read_at setup d.at line >>= (λ t. Ok (with_said t.value (record d { at = t.left })))

-- the most bytes of a frozen file
abbrev pub longest_file : ℕ
longest_file = 134217728

abbrev pub is_past : Slot → Bool
is_past slot.Past = true
is_past _ = false

abbrev pub judged : {A : Type 0} → ℕ → Option A → Result A (LineError ThawKind)
judged number (Some whole) = Ok whole
judged number None = Err (error_at number kind.Unsound)

-- A file whose last line isn't the last one of a frozen file ends too early; and of a whole file its last line is
-- refused where the whole comes to nothing.
unfoldable pub at_end : {A : Type 0} → (Draft → Option A) → ℕ → Draft → Result A (LineError ThawKind)
at_end whole_of number d =
    if is_past d.at.slot then judged number (whole_of d) else Err (error_at (number + 1) kind.Spelling)

-- the language, for what a whole file comes to, if it is sound
abbrev pub frozen_language : {A : Type 0} → Setup → (Draft → Option A) → Language Draft A ThawKind
frozen_language setup whole_of = record {
  lines_of = fed_lines;
  longest = longest_file;
  too_long = kind.Spelling;
  nothing = nothing_read;
  with_line = λ _ d line. with_line setup d line;
  at_end = at_end whole_of;
}
