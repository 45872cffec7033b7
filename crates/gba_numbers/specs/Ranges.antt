-- The range of each number.
use Rattle.std.specs.Prelude.{ℕ, ◌+◌, ◌*◌, ◌^◌, ◌==◌, Bool, bit_and, ◌&&◌, nat_le, nat_lt, if◌then◌else◌}
use Rattle.gba_psr.specs.Modes.{is_mode}
use Rattle.gba_psr.specs.Status.{kept_status, mode_of}
use Rattle.gba_register.specs.Rows.{row_at}
use Rattle.gba_timer.specs.Timers.{timer_rows}
use Rattle.gba_numbers.specs.declared.fields.BoardField.{BoardField}
use Rattle.gba_numbers.specs.declared.fields.BoardField.TheVariants as board
use Rattle.gba_numbers.specs.declared.fields.Field.{Field}
use Rattle.gba_numbers.specs.declared.fields.Field.TheVariants.{Clock, Was, Applied, Register, Board, QueueByte, Frames, Samples, Words, FlashState, FlashArmed, FlashIdentify, FlashBank}

-- The latest clock of a console: its limit is 2 ^ 39 at most, and a step ends at most 511 cycles behind it.
abbrev pub latest_clock : ℕ
latest_clock = 2 ^ 39 + 511

-- what a truth as a number is below, what a word is below, and what a count is below
abbrev pub truth_end : ℕ
truth_end = 2

abbrev pub word_end : ℕ
word_end = 2 ^ 32

abbrev pub count_end : ℕ
count_end = 2 ^ 40

-- a status register has its stored bits alone, and CPSR one of the seven modes
abbrev pub is_saved_status : ℕ → Bool
is_saved_status value = nat_lt value word_end && kept_status value == value

abbrev pub is_status : ℕ → Bool
is_status value = is_saved_status value && is_mode (mode_of value)

-- the first 31 registers are general ones, then comes CPSR, and then the SPSRs
unfoldable pub register_fits : ℕ → ℕ → Bool
register_fits register value =
    if nat_lt register 31 then nat_lt value word_end
    else if register == 31 then is_status value
    else is_saved_status value

-- the bits of a timer's control that a write stores
abbrev pub control_mask : ℕ → ℕ
control_mask timer = (row_at timer_rows (0x102 + 4 * timer)).write_mask

unfoldable pub control_fits : ℕ → ℕ → Bool
control_fits timer value = nat_lt value 0x10000 && bit_and value (control_mask timer) == value

-- the place of a tone: channels 1 and 2 have eight places, channel 3 has 64, and channel 4 a number of 15 bits
abbrev pub tone_place_end : ℕ → ℕ
tone_place_end tone = if nat_le tone 2 then 8 else if tone == 3 then 64 else 0x8000

-- the end of the range of a tone's part
unfoldable pub tone_end : ℕ → ℕ → ℕ
tone_end tone part =
    if part == 0 then truth_end
    else if part == 1 then tone_place_end tone
    else if part == 2 then 2 ^ 24
    else if part == 3 then 257
    else if part == 4 then 16
    else if part == 5 then 8
    else if part == 6 then 8
    else 2048

unfoldable pub board_fits : BoardField → ℕ → Bool
board_fits board.Halted value = nat_lt value truth_end
board_fits (board.TimerCounter timer) value = nat_lt value 0x10000
board_fits (board.TimerReload timer) value = nat_lt value 0x10000
board_fits (board.TimerControl timer) value = control_fits timer value
board_fits (board.TimerPhase timer) value = nat_lt value 1024
board_fits (board.DmaActive channel) value = nat_lt value truth_end
board_fits (board.DmaFirst channel) value = nat_lt value truth_end
board_fits (board.DmaSource channel) value = nat_lt value word_end
board_fits (board.DmaTarget channel) value = nat_lt value word_end
board_fits (board.DmaLeft channel) value = nat_le value 0x10000
board_fits (board.QueueCurrent queue) value = nat_lt value 0x100
board_fits (board.QueueLength queue) value = nat_le value 32
board_fits board.Sequencer value = nat_lt value 0x40000
board_fits (board.Tone tone part) value = nat_lt value (tone_end tone part)
board_fits (board.WaveByte bank place) value = nat_lt value 0x100
board_fits board.Line value = nat_lt value 228
board_fits board.Dot value = nat_lt value 1232
board_fits (board.ReferenceX background) value = nat_lt value word_end
board_fits (board.ReferenceY background) value = nat_lt value word_end
board_fits board.SerialMode value = nat_lt value 4
board_fits board.SerialRunning value = nat_lt value truth_end
board_fits board.SerialStarted value = nat_lt value truth_end
board_fits board.SerialEnd value = nat_lt value count_end
board_fits board.SerialGot value = nat_lt value 16
board_fits board.SerialSent value = nat_lt value word_end
board_fits board.SerialWord value = nat_lt value word_end
board_fits (board.Known player) value = nat_lt value 4

unfoldable pub field_fits : Field → ℕ → Bool
field_fits Clock value = nat_le value latest_clock
field_fits Was value = nat_le value latest_clock
field_fits Applied value = nat_lt value count_end
field_fits (Register register) value = register_fits register value
field_fits (Board field) value = board_fits field value
field_fits (QueueByte queue place) value = nat_lt value 0x100
field_fits Frames value = nat_lt value count_end
field_fits Samples value = nat_lt value count_end
field_fits Words value = nat_lt value count_end
field_fits FlashState value = nat_lt value 5
field_fits FlashArmed value = nat_lt value truth_end
field_fits FlashIdentify value = nat_lt value truth_end
field_fits FlashBank value = nat_lt value truth_end
