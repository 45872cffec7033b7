-- Which numbers there are, and where each stands in the order of a frozen file.
use Rattle.std.specs.Prelude.{ℕ, ◌+◌, ◌-◌, ◌*◌, Bool, true, ◌&&◌, nat_le, nat_lt}
use Rattle.gba_numbers.specs.declared.fields.BoardField.{BoardField}
use Rattle.gba_numbers.specs.declared.fields.BoardField.TheVariants as board
use Rattle.gba_numbers.specs.declared.fields.Field.{Field}
use Rattle.gba_numbers.specs.declared.fields.Field.TheVariants.{Clock, Was, Applied, Register, Board, QueueByte, Frames, Samples, Words, FlashState, FlashArmed, FlashIdentify, FlashBank}

-- whether the numbers in a variant are ones of a timer, a channel and so on
unfoldable pub is_board_field : BoardField → Bool
is_board_field board.Halted = true
is_board_field (board.TimerCounter timer) = nat_lt timer 4
is_board_field (board.TimerReload timer) = nat_lt timer 4
is_board_field (board.TimerControl timer) = nat_lt timer 4
is_board_field (board.TimerPhase timer) = nat_lt timer 4
is_board_field (board.DmaActive channel) = nat_lt channel 4
is_board_field (board.DmaFirst channel) = nat_lt channel 4
is_board_field (board.DmaSource channel) = nat_lt channel 4
is_board_field (board.DmaTarget channel) = nat_lt channel 4
is_board_field (board.DmaLeft channel) = nat_lt channel 4
is_board_field (board.QueueCurrent queue) = nat_lt queue 2
is_board_field (board.QueueLength queue) = nat_lt queue 2
is_board_field board.Sequencer = true
is_board_field (board.Tone tone part) = nat_le 1 tone && nat_le tone 4 && nat_lt part 8
is_board_field (board.WaveByte bank place) = nat_lt bank 2 && nat_lt place 16
is_board_field board.Line = true
is_board_field board.Dot = true
is_board_field (board.ReferenceX background) = nat_le 2 background && nat_le background 3
is_board_field (board.ReferenceY background) = nat_le 2 background && nat_le background 3
is_board_field board.SerialMode = true
is_board_field board.SerialRunning = true
is_board_field board.SerialStarted = true
is_board_field board.SerialEnd = true
is_board_field board.SerialGot = true
is_board_field board.SerialSent = true
is_board_field board.SerialWord = true
is_board_field (board.Known player) = nat_lt player 4

unfoldable pub is_field : Field → Bool
is_field Clock = true
is_field Was = true
is_field Applied = true
is_field (Register register) = nat_lt register 37
is_field (Board field) = is_board_field field
is_field (QueueByte queue place) = nat_lt queue 2 && nat_lt place 32
is_field Frames = true
is_field Samples = true
is_field Words = true
is_field FlashState = true
is_field FlashArmed = true
is_field FlashIdentify = true
is_field FlashBank = true

-- The numbers of a console that stand by themselves, 138 of them, in the order of a frozen file's lines: the clock, the
-- halt, 37 registers, 16 numbers of timers, 20 of DMA channels, 4 of queues, the sequencer, 32 of tones, the picture's
-- place, 4 of reference points, 7 of the serial unit, 4 known modes, 4 of the flash, and 5 more.
abbrev pub number_count : ℕ
number_count = 138

-- The place of a number in that order. Behind the 138 stand the bytes of the queues, 32 places for each, and then those
-- of the wave's banks, 16 for each.
unfoldable pub board_place : BoardField → ℕ
board_place board.Halted = 1
board_place (board.TimerCounter timer) = 39 + 4 * timer
board_place (board.TimerReload timer) = 40 + 4 * timer
board_place (board.TimerControl timer) = 41 + 4 * timer
board_place (board.TimerPhase timer) = 42 + 4 * timer
board_place (board.DmaActive channel) = 55 + 5 * channel
board_place (board.DmaFirst channel) = 56 + 5 * channel
board_place (board.DmaSource channel) = 57 + 5 * channel
board_place (board.DmaTarget channel) = 58 + 5 * channel
board_place (board.DmaLeft channel) = 59 + 5 * channel
board_place (board.QueueCurrent queue) = 75 + 2 * queue
board_place (board.QueueLength queue) = 76 + 2 * queue
board_place board.Sequencer = 79
board_place (board.Tone tone part) = 80 + 8 * (tone - 1) + part
board_place (board.WaveByte bank place) = 202 + 16 * bank + place
board_place board.Line = 112
board_place board.Dot = 113
board_place (board.ReferenceX background) = 114 + 2 * (background - 2)
board_place (board.ReferenceY background) = 115 + 2 * (background - 2)
board_place board.SerialMode = 118
board_place board.SerialRunning = 119
board_place board.SerialStarted = 120
board_place board.SerialEnd = 121
board_place board.SerialGot = 122
board_place board.SerialSent = 123
board_place board.SerialWord = 124
board_place (board.Known player) = 125 + player

unfoldable pub place_of : Field → ℕ
place_of Clock = 0
place_of Was = 133
place_of Applied = 134
place_of (Register register) = 2 + register
place_of (Board field) = board_place field
place_of (QueueByte queue place) = 138 + 32 * queue + place
place_of Frames = 135
place_of Samples = 136
place_of Words = 137
place_of FlashState = 129
place_of FlashArmed = 130
place_of FlashIdentify = 131
place_of FlashBank = 132
