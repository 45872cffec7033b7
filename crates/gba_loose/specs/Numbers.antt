use Rattle.std.specs.Prelude.{ℕ, ◌-◌, ◌==◌, length, slice_index, if◌then◌else◌}
use Rattle.gba_word.specs.Sums.{flag_number}
use Rattle.gba_dma.specs.Channels.{channel_at}
use Rattle.gba_io.specs.Core.{Core}
use Rattle.gba_numbers.specs.declared.fields.BoardField.{BoardField}
use Rattle.gba_numbers.specs.declared.fields.BoardField.TheVariants as board
use Rattle.gba_ppu_reg.specs.Registers.{reference_of}
use Rattle.gba_psg.specs.Tones.{tone_at}
use Rattle.gba_psg.specs.declared.tone.Tone.{Tone}
use Rattle.gba_serial.specs.Numbers.{end_number, is_starter, received_number, sent_number, word_number}
use Rattle.gba_serial.specs.SerialUnit.{is_running, known_mode, mode_of}
use Rattle.gba_sound.specs.Queues.{queue_at}
use Rattle.gba_timer.specs.Timers.{timer_at}
use Rattle.link_node.specs.Packing.{mode_number}

-- The numbers that a frozen file has of a console's devices.

-- a part of a tone, by its place among the eight
abbrev pub tone_part : ℕ → Tone → ℕ
tone_part part t =
    if part == 0 then flag_number t.on
    else if part == 1 then t.place
    else if part == 2 then t.wait
    else if part == 3 then t.left
    else if part == 4 then t.volume
    else if part == 5 then t.fade
    else if part == 6 then t.sweep
    else t.shadow

-- Each number of a board. Tone channels count from 1 here; a byte of the wave is one of the bank whose number stands
-- in its name.
unfoldable pub board_number : BoardField → Core → ℕ
board_number board.Halted b = flag_number b.devices.halted
board_number (board.TimerCounter timer) b = (timer_at timer b.devices.timers).counter
board_number (board.TimerReload timer) b = (timer_at timer b.devices.timers).reload
board_number (board.TimerControl timer) b = (timer_at timer b.devices.timers).control
board_number (board.TimerPhase timer) b = (timer_at timer b.devices.timers).phase
board_number (board.DmaActive channel) b = flag_number (channel_at channel b.devices.channels).active
board_number (board.DmaFirst channel) b = flag_number (channel_at channel b.devices.channels).first
board_number (board.DmaSource channel) b = (channel_at channel b.devices.channels).inner_source
board_number (board.DmaTarget channel) b = (channel_at channel b.devices.channels).inner_target
board_number (board.DmaLeft channel) b = (channel_at channel b.devices.channels).left
board_number (board.QueueCurrent queue) b = (queue_at queue b.devices.sound).current
board_number (board.QueueLength queue) b = length (queue_at queue b.devices.sound).bytes
board_number board.Sequencer b = b.devices.tones.sequencer
board_number (board.Tone tone part) b = tone_part part (tone_at (tone - 1) b.devices.tones)
board_number (board.WaveByte bank place) b =
    slice_index (if bank == 0 then b.devices.tones.wave.bank0 else b.devices.tones.wave.bank1) place
board_number board.Line b = b.devices.place.line
board_number board.Dot b = b.devices.place.dot
board_number (board.ReferenceX background) b = (reference_of background b.devices.picture).x
board_number (board.ReferenceY background) b = (reference_of background b.devices.picture).y
board_number board.SerialMode b = mode_number (mode_of b.serial)
board_number board.SerialRunning b = flag_number (is_running b.serial)
board_number board.SerialStarted b = flag_number (is_starter b.serial)
board_number board.SerialEnd b = end_number b.serial
board_number board.SerialGot b = received_number b.serial
board_number board.SerialSent b = sent_number b.serial
board_number board.SerialWord b = word_number b.serial
board_number (board.Known player) b = mode_number (known_mode b.serial.known player)
