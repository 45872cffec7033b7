-- The text of a whole frozen file.
use Rattle.std.specs.Prelude.{ℕ, zero, suc, ◌+◌, ◌^◌, Bool, true, nat_lt, List, [], ◌∷◌, ◌++◌, map, if◌then◌else◌}
use Rattle.gba_flash.specs.Flash.{is_flash}
use Rattle.gba_image.specs.declared.backup.Backup.{Backup}
use Rattle.link_node.specs.declared.signal.Signal.{Signal}
use Rattle.gba_numbers.specs.Numbers.{ConsoleNumbers, value_of}
use Rattle.gba_numbers.specs.declared.fields.BoardField.TheVariants as board
use Rattle.gba_numbers.specs.declared.fields.Field.{Field}
use Rattle.gba_numbers.specs.declared.fields.Field.TheVariants as console
use Rattle.gba_frozen.specs.Lines.{Said, Nothing, Values, QueueBytes, WaveBytes, MemoryBytes, Colours, Live}
use Rattle.gba_frozen.specs.Places.{backup_of}
use Rattle.gba_frozen.specs.Reading.{ConsoleDraft, Draft}
use Rattle.gba_frozen.specs.Rows.{count_of, field_of, row_line}
use Rattle.gba_frozen.specs.declared.kinds.Setup.{Setup}
use Rattle.gba_frozen.specs.declared.places.MemoryPlace.{MemoryPlace}
use Rattle.gba_frozen.specs.declared.rows.Row.{Row}
use Rattle.gba_frozen.specs.declared.rows.Row.TheVariants as row
use Rattle.gba_frozen_print.specs.Printed.{digest_text, drawn_text, end_text, ended, memory_text, queue_text, signal_text, version_text, wave_text}

-- whether a number can be printed: those of eight digits are below 2 ^ 32, and a sound queue's current byte is one
unfoldable pub is_printable : Field → ℕ → Bool
is_printable (console.Register register) value = nat_lt value (2 ^ 32)
is_printable (console.Board (board.ReferenceX background)) value = nat_lt value (2 ^ 32)
is_printable (console.Board (board.ReferenceY background)) value = nat_lt value (2 ^ 32)
is_printable (console.Board (board.QueueCurrent queue)) value = nat_lt value 0x100
is_printable _ value = true

-- the numbers of a row, from one of its parts on
unfoldable pub row_values : Row → ℕ → ℕ → ConsoleNumbers → List ℕ
row_values which part zero n = []
row_values which part (suc count) n = value_of (field_of which part) n ∷ row_values which (part + 1) count n

abbrev pub row_of : ConsoleNumbers → Row → Said
row_of n which = Values which (row_values which 0 (count_of which) n)

-- so many rows of a kind, from a number on
abbrev pub rows_from : (ℕ → Row) → ℕ → ℕ → List Row
rows_from make first zero = []
rows_from make first (suc count) = make first ∷ rows_from make (first + 1) count

-- the rows of a console: before its sound queues, between these and the wave, before its memories, and behind them
unfoldable pub processor_rows : List Row
processor_rows =
    row.Clock ∷ row.Halted ∷ (rows_from row.Register 0 37 ++ rows_from row.Timer 0 4 ++ rows_from row.Dma 0 4)

unfoldable pub tone_rows : List Row
tone_rows = row.Sequencer ∷ rows_from row.Tone 1 4

unfoldable pub board_rows : List Row
board_rows = row.Position ∷ row.Affine 2 ∷ row.Affine 3 ∷ row.Serial ∷ row.Known ∷ []

unfoldable pub last_rows : List Row
last_rows = row.Was ∷ row.Applied ∷ row.Counts ∷ []

abbrev pub rows_behind : Backup → List Row
rows_behind backup = if is_flash backup then row.Flash ∷ last_rows else last_rows

-- what the lines of a console say
abbrev pub queue_of : ConsoleNumbers → ℕ → List ℕ → Said
queue_of n queue bytes = QueueBytes queue (value_of (console.Board (board.QueueCurrent queue)) n) bytes

abbrev pub memory_of : MemoryPlace × List ℕ → Said
memory_of line = MemoryBytes line.0 line.1

abbrev pub drawn_of : ℕ × List ℕ → Said
drawn_of line = Colours line.0 line.1

-- before its memories
unfoldable pub numbers_say : ℕ → ConsoleNumbers → List Said
numbers_say player n =
    Values row.Heading [] ∷ Values (row.Console player) []
    ∷ (map (row_of n) processor_rows
    ++ queue_of n 0 n.queue_a ∷ queue_of n 1 n.queue_b ∷ []
    ++ map (row_of n) tone_rows
    ++ WaveBytes 0 n.wave0 ∷ WaveBytes 1 n.wave1 ∷ []
    ++ map (row_of n) board_rows)

unfoldable pub console_says : Backup → ℕ → ConsoleDraft → List Said
console_says backup player c =
    numbers_say player c.numbers ++ map memory_of c.memory ++ map (row_of c.numbers) (rows_behind backup)
    ++ map drawn_of c.drawn

unfoldable pub consoles_say : Setup → ℕ → List ConsoleDraft → List Said
consoles_say setup player [] = []
consoles_say setup player (c ∷ consoles) =
    console_says (backup_of setup player) player c ++ consoles_say setup (player + 1) consoles

abbrev pub live_of : ℕ × Signal → Said
live_of one = Live one.0 one.1

-- the line that says this
unfoldable pub said_line : Said → List ℕ
said_line Nothing = []
said_line (Values which values) = row_line which values
said_line (QueueBytes queue current bytes) = queue_text queue current bytes
said_line (WaveBytes bank bytes) = wave_text bank bytes
said_line (MemoryBytes place bytes) = memory_text place bytes
said_line (Colours line colours) = drawn_text line colours
said_line (Live sender signal) = signal_text sender signal

-- lines with their line feeds, one behind another
unfoldable pub text_of : List (List ℕ) → List ℕ
text_of [] = []
text_of (line ∷ lines) = ended line ++ text_of lines

-- the lines that say these, one behind another
abbrev pub says_text : List Said → List ℕ
says_text says = text_of (map said_line says)

-- The file of a draft: the first two lines, those of its consoles, its live signals, and the last line.
unfoldable pub frozen_lines : Setup → Draft → List (List ℕ)
frozen_lines setup d =
    version_text ∷ digest_text setup.digest
    ∷ (map said_line (consoles_say setup 0 d.consoles ++ map live_of d.sent) ++ end_text ∷ [])

unfoldable pub frozen_text : Setup → Draft → List ℕ
frozen_text setup d = text_of (frozen_lines setup d)
