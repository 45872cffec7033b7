-- The fixed lines of a console: a first word, a number that may follow it, and as many numbers as the line has, each of
-- which is a number of the console.
use Rattle.std.specs.Prelude.{ℕ, ◌+◌, ◌^◌, ◌==◌, Bool, true, ◌&&◌, nat_le, nat_lt, List, [], ◌∷◌, ◌++◌, codes, decimal, slice_index_or, Option, Some, None, if◌then◌else◌}
use Rattle.gba_terms.specs.RegisterNames.{register_names}
use Rattle.gba_numbers.specs.Ranges.{field_fits}
use Rattle.gba_numbers.specs.declared.fields.BoardField.{BoardField}
use Rattle.gba_numbers.specs.declared.fields.BoardField.TheVariants as board
use Rattle.gba_numbers.specs.declared.fields.Field.{Field}
use Rattle.gba_numbers.specs.declared.fields.Field.TheVariants as console
use Rattle.gba_frozen.specs.Spelling.{joined, spelled}
use Rattle.gba_frozen.specs.declared.rows.Row.{Row}
use Rattle.gba_frozen.specs.declared.rows.Row.TheVariants as row
use Rattle.gba_frozen.specs.declared.rows.Spelling.{Spelling}
use Rattle.gba_frozen.specs.declared.rows.Spelling.TheVariants.{Decimal, Word}

-- whether a row's number is one of a player, a register and so on
unfoldable pub is_row : Row → Bool
is_row row.Heading = true
is_row (row.Console player) = nat_lt player 4
is_row row.Clock = true
is_row row.Halted = true
is_row (row.Register register) = nat_lt register 37
is_row (row.Timer timer) = nat_lt timer 4
is_row (row.Dma channel) = nat_lt channel 4
is_row row.Sequencer = true
is_row (row.Tone tone) = nat_le 1 tone && nat_le tone 4
is_row row.Position = true
is_row (row.Affine background) = nat_le 2 background && nat_le background 3
is_row row.Serial = true
is_row row.Known = true
is_row row.Flash = true
is_row row.Was = true
is_row row.Applied = true
is_row row.Counts = true

unfoldable pub keyword_of : Row → List ℕ
keyword_of row.Heading = codes "gbalink-state"
keyword_of (row.Console player) = codes "console"
keyword_of row.Clock = codes "clock"
keyword_of row.Halted = codes "halted"
keyword_of (row.Register register) = slice_index_or register_names register []
keyword_of (row.Timer timer) = codes "timer"
keyword_of (row.Dma channel) = codes "dma"
keyword_of row.Sequencer = codes "sequencer"
keyword_of (row.Tone tone) = codes "tone"
keyword_of row.Position = codes "position"
keyword_of (row.Affine background) = codes "affine"
keyword_of row.Serial = codes "serial"
keyword_of row.Known = codes "known"
keyword_of row.Flash = codes "flash"
keyword_of row.Was = codes "was"
keyword_of row.Applied = codes "applied"
keyword_of row.Counts = codes "counts"

unfoldable pub number_of_row : Row → Option ℕ
number_of_row row.Heading = Some 1
number_of_row (row.Console player) = Some player
number_of_row (row.Timer timer) = Some timer
number_of_row (row.Dma channel) = Some channel
number_of_row (row.Tone tone) = Some tone
number_of_row (row.Affine background) = Some background
number_of_row _ = None

unfoldable pub spelling_of : Row → Spelling
spelling_of (row.Register register) = Word
spelling_of (row.Affine background) = Word
spelling_of _ = Decimal

unfoldable pub count_of : Row → ℕ
count_of row.Heading = 0
count_of (row.Console player) = 0
count_of row.Clock = 1
count_of row.Halted = 1
count_of (row.Register register) = 1
count_of (row.Timer timer) = 4
count_of (row.Dma channel) = 5
count_of row.Sequencer = 1
count_of (row.Tone tone) = 8
count_of row.Position = 2
count_of (row.Affine background) = 2
count_of row.Serial = 7
count_of row.Known = 4
count_of row.Flash = 4
count_of row.Was = 1
count_of row.Applied = 1
count_of row.Counts = 3

-- which numbers of the console these are, in the order of the line
abbrev pub timer_field_of : ℕ → ℕ → BoardField
timer_field_of timer part =
    if part == 0 then board.TimerCounter timer
    else if part == 1 then board.TimerReload timer
    else if part == 2 then board.TimerControl timer
    else board.TimerPhase timer

abbrev pub channel_field_of : ℕ → ℕ → BoardField
channel_field_of channel part =
    if part == 0 then board.DmaActive channel
    else if part == 1 then board.DmaFirst channel
    else if part == 2 then board.DmaSource channel
    else if part == 3 then board.DmaTarget channel
    else board.DmaLeft channel

abbrev pub serial_field_of : ℕ → BoardField
serial_field_of part =
    if part == 0 then board.SerialMode
    else if part == 1 then board.SerialRunning
    else if part == 2 then board.SerialStarted
    else if part == 3 then board.SerialEnd
    else if part == 4 then board.SerialGot
    else if part == 5 then board.SerialSent
    else board.SerialWord

abbrev pub flash_field_of : ℕ → Field
flash_field_of part =
    if part == 0 then console.FlashState
    else if part == 1 then console.FlashArmed
    else if part == 2 then console.FlashIdentify
    else console.FlashBank

abbrev pub count_field_of : ℕ → Field
count_field_of part = if part == 0 then console.Frames else if part == 1 then console.Samples else console.Words

abbrev pub position_field_of : ℕ → BoardField
position_field_of part = if part == 0 then board.Line else board.Dot

abbrev pub reference_field_of : ℕ → ℕ → BoardField
reference_field_of background part = if part == 0 then board.ReferenceX background else board.ReferenceY background

unfoldable pub field_of : Row → ℕ → Field
field_of row.Heading part = console.Clock
field_of (row.Console player) part = console.Clock
field_of row.Clock part = console.Clock
field_of row.Halted part = console.Board board.Halted
field_of (row.Register register) part = console.Register register
field_of (row.Timer timer) part = console.Board (timer_field_of timer part)
field_of (row.Dma channel) part = console.Board (channel_field_of channel part)
field_of row.Sequencer part = console.Board board.Sequencer
field_of (row.Tone tone) part = console.Board (board.Tone tone part)
field_of row.Position part = console.Board (position_field_of part)
field_of (row.Affine background) part = console.Board (reference_field_of background part)
field_of row.Serial part = console.Board (serial_field_of part)
field_of row.Known part = console.Board (board.Known part)
field_of row.Flash part = flash_field_of part
field_of row.Was part = console.Was
field_of row.Applied part = console.Applied
field_of row.Counts part = count_field_of part

-- a number of eight digits is below 2 ^ 32
abbrev pub fits_spelling : Spelling → ℕ → Bool
fits_spelling Decimal value = true
fits_spelling Word value = nat_lt value (2 ^ 32)

-- the words after the first one
abbrev pub number_words : Option ℕ → List (List ℕ)
number_words None = []
number_words (Some number) = decimal number ∷ []

abbrev pub spelled_all : Spelling → List ℕ → List (List ℕ)
spelled_all spelling [] = []
spelled_all spelling (value ∷ values) = spelled spelling value ∷ spelled_all spelling values

abbrev pub row_words : Row → List ℕ → List (List ℕ)
row_words which values = number_words (number_of_row which) ++ spelled_all (spelling_of which) values

-- the line of a row with these values
abbrev pub row_line : Row → List ℕ → List ℕ
row_line which values = joined (keyword_of which) (row_words which values)

-- The clocks aren't more than 511 cycles behind the end of the job's run.
abbrev pub in_time : ℕ → Field → ℕ → Bool
in_time until console.Clock value = nat_le value (until + 511)
in_time until console.Was value = nat_le value (until + 511)
in_time until _ value = true

-- whether each value is in the range of its field, from this part of the row on
unfoldable pub all_fit : ℕ → Row → ℕ → List ℕ → Bool
all_fit until which part [] = true
all_fit until which part (value ∷ values) =
    field_fits (field_of which part) value && in_time until (field_of which part) value
    && all_fit until which (part + 1) values
