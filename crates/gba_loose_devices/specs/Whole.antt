use Rattle.std.specs.Prelude.{ℕ, ◌%◌, ◌<◌, ◌^◌, List, map}
use Rattle.std.specs.List.{range_with_len}
use Rattle.gba_terms.specs.Bits.{bit}
use Rattle.gba_devices.specs.Parts.{devices_of}
use Rattle.gba_devices.specs.declared.parts.DeviceParts.{DeviceParts}
use Rattle.gba_dma.specs.Consistency.{RunsAreEnabled}
use Rattle.gba_io.specs.declared.made.Counts.{Counts}
use Rattle.gba_io.specs.declared.pouring.BoardParts.{BoardParts}
use Rattle.gba_numbers.specs.Numbers.{ConsoleNumbers, value_of}
use Rattle.gba_numbers.specs.declared.fields.BoardField.TheVariants as board
use Rattle.gba_numbers.specs.declared.fields.Field.TheVariants.{Clock, Register, Frames, Samples, Words}
use Rattle.gba_ppu_reg.specs.Position.{IsPosition}
use Rattle.gba_psg.specs.Soundness.{AreSound}
use Rattle.gba_serial.specs.declared.serial.making.Seat.{Seat}
use Rattle.gba_loose_devices.specs.Values.{half_at, is_set}
use Rattle.gba_loose_devices.specs.Devices.{channels_poured, interrupts_poured, keys_poured, timers_poured}
use Rattle.gba_loose_devices.specs.Picture.{picture_poured, place_poured}
use Rattle.gba_loose_devices.specs.Sound.{sound_poured, tones_poured}
use Rattle.gba_loose_devices.specs.Cable.{serial_poured}

-- The board of a console's numbers and of the bytes of its I/O registers, and its processor's registers.

-- the devices, with WAITCNT 204h and bit 0 of POSTFLG 300h
abbrev pub devices_poured : ConsoleNumbers → List ℕ → DeviceParts
devices_poured n io = record {
  clock = value_of Clock n;
  timers = timers_poured n;
  queues = sound_poured n io;
  tones = tones_poured n io;
  channels = channels_poured n io;
  place = place_poured n;
  picture = picture_poured n io;
  interrupts = interrupts_poured io;
  keypad = keys_poured io;
  waits = half_at 0x204 io;
  posted = bit (half_at 0x300 io) 0;
  halted = is_set board.Halted n;
}

-- what the devices need of their numbers beside each one's range
pub record AreSoundDevices (n : ConsoleNumbers) (io : List ℕ) : Type 0 where
  pub runs : RunsAreEnabled (channels_poured n io)
  pub tones : AreSound (tones_poured n io)
  pub place : IsPosition (place_poured n)
  pub clock : value_of Clock n < 2 ^ 63

-- the parts of the board of a console with a seat
abbrev pub counts_poured : ConsoleNumbers → Counts
counts_poured n = record { frames = value_of Frames n; samples = value_of Samples n; words = value_of Words n }

abbrev pub board_poured : Seat → ConsoleNumbers → List ℕ → BoardParts
board_poured seat n io = record {
  devices = devices_of (devices_poured n io);
  serial = serial_poured seat n io;
  counts = counts_poured n;
}

-- the 37 registers, in the order of their names
abbrev pub registers_poured : ConsoleNumbers → List ℕ
registers_poured n = map (λ register. value_of (Register register) n % 2 ^ 32) (range_with_len 0 37)
