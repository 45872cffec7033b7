use Rattle.std.specs.Prelude.{ℕ, ◌+◌, ◌-◌, ◌*◌, ◌^◌, List}
use Rattle.gba_terms.specs.Bits.{bit, field}
use Rattle.gba_dma.specs.Channels.{FourChannels}
use Rattle.gba_dma.specs.declared.channel.Channel.{Channel}
use Rattle.gba_irq.specs.Keypad.{Keys}
use Rattle.gba_irq.specs.declared.interrupts.Interrupts.{Interrupts}
use Rattle.gba_numbers.specs.Numbers.{ConsoleNumbers}
use Rattle.gba_numbers.specs.declared.fields.BoardField.TheVariants as board
use Rattle.gba_timer.specs.Timers.{FourTimers}
use Rattle.gba_timer.specs.declared.timer.Timer.{Timer}
use Rattle.gba_loose_devices.specs.Values.{half_at, is_set, number_cut, word_at}

-- Devices of a console's numbers and of the bytes of its I/O registers, which stand at their offsets from 04000000h.

-- a timer, whose control and reload are numbers of their own (GBATEK, GBA Timers)
abbrev pub timer_poured : ℕ → ConsoleNumbers → Timer
timer_poured k n = record {
  counter = number_cut 16 (board.TimerCounter k) n;
  reload = number_cut 16 (board.TimerReload k) n;
  control = number_cut 16 (board.TimerControl k) n;
  phase = number_cut 16 (board.TimerPhase k) n;
}

unfoldable pub timers_poured : ConsoleNumbers → FourTimers
timers_poured n = record {
  timer0 = timer_poured 0 n;
  timer1 = timer_poured 1 n;
  timer2 = timer_poured 2 n;
  timer3 = timer_poured 3 n;
}

-- a DMA channel: what was written to it stands in the I/O registers, DMAxSAD, DMAxDAD, DMAxCNT_L and DMAxCNT_H, twelve
-- bytes a channel (GBATEK, GBA DMA Transfers), and its run is numbers of its own
abbrev pub channel_poured : ℕ → ConsoleNumbers → List ℕ → Channel
channel_poured k n io = record {
  source = word_at (0x0b0 + 12 * k) io;
  target = word_at (0x0b4 + 12 * k) io;
  count = half_at (0x0b8 + 12 * k) io;
  control = half_at (0x0ba + 12 * k) io;
  active = is_set (board.DmaActive k) n;
  first = is_set (board.DmaFirst k) n;
  inner_source = number_cut 32 (board.DmaSource k) n;
  inner_target = number_cut 32 (board.DmaTarget k) n;
  left = number_cut 32 (board.DmaLeft k) n;
}

unfoldable pub channels_poured : ConsoleNumbers → List ℕ → FourChannels
channels_poured n io = record {
  channel0 = channel_poured 0 n io;
  channel1 = channel_poured 1 n io;
  channel2 = channel_poured 2 n io;
  channel3 = channel_poured 3 n io;
}

-- IE, IF and IME (GBATEK, GBA Interrupt Control)
abbrev pub interrupts_poured : List ℕ → Interrupts
interrupts_poured io = record {
  enabled = half_at 0x200 io;
  raised = half_at 0x202 io;
  master = bit (half_at 0x208 io) 0;
}

-- KEYINPUT, in which a pressed key is 0, and KEYCNT (GBATEK, GBA Keypad Input)
abbrev pub keys_poured : List ℕ → Keys
keys_poured io = record {
  pressed = 2 ^ 10 - 1 - field (half_at 0x130 io) 0 10;
  control = half_at 0x132 io;
}
