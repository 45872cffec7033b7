use Rattle.std.specs.Prelude.{IfSome, ◌≡◌, ℕ, ◌<◌, ◌^◌, true, List, length, slice_index}
use Rattle.gba_terms.specs.Bytes.{AreBytes}
use Rattle.gba_dma.specs.Channels.{channel_at}
use Rattle.gba_dma.specs.declared.channel.Channel.{Channel}
use Rattle.gba_io.specs.Core.{Core}
use Rattle.gba_loose_devices.specs.Devices.{channel_poured, timers_poured}
use Rattle.gba_loose_devices.specs.Picture.{place_poured, reference_poured}
use Rattle.gba_loose_devices.specs.Cable.{mode_poured, run_poured}
use Rattle.gba_loose_devices.specs.Sound.{queue_poured, tone_numbers}
use Rattle.gba_psg.specs.Numbers.{numbers_of}
use Rattle.gba_loose_devices.specs.Values.{bytes_cut, is_set}
use Rattle.gba_serial.specs.SerialUnit.{known_mode}
use Rattle.gba_numbers.specs.Fields.{is_board_field}
use Rattle.gba_numbers.specs.Numbers.{ConsoleNumbers, value_of}
use Rattle.gba_numbers.specs.Ranges.{board_fits}
use Rattle.gba_numbers.specs.declared.fields.BoardField.{BoardField}
use Rattle.gba_numbers.specs.declared.fields.BoardField.TheVariants as board
use Rattle.gba_numbers.specs.declared.fields.Field.TheVariants.{Board}
use Rattle.gba_loose.specs.Numbers.{board_number}

-- What the numbers of a board make is that board again.

-- the numbers are those of a board, and each of these is in its range
abbrev pub AreNumbersOf : Core → ConsoleNumbers → Type 0
AreNumbersOf b n = (field : BoardField) → is_board_field field ≡ true → value_of (Board field) n ≡ board_number field b

abbrev pub AreInRange : Core → Type 0
AreInRange b = (field : BoardField) → is_board_field field ≡ true → board_fits field (board_number field b) ≡ true

-- the run of a channel, which isn't what was written to its registers
pub record IsSameRun (one other : Channel) : Type 0 where
  pub active : one.active ≡ other.active
  pub first : one.first ≡ other.first
  pub source : one.inner_source ≡ other.inner_source
  pub target : one.inner_target ≡ other.inner_target
  pub left : one.left ≡ other.left

-- Timers, the runs of DMA channels, the picture's place and the inner reference points, and the halt are of numbers
-- alone, whatever the bytes of the I/O registers are.
pub record NumbersMakeAgain (b : Core) (n : ConsoleNumbers) : Type 0 where
  pub timers : timers_poured n ≡ b.devices.timers
  pub runs : (channel : ℕ) (io : List ℕ) → channel < 4
      → IsSameRun (channel_poured channel n io) (channel_at channel b.devices.channels)
  pub place : place_poured n ≡ b.devices.place
  pub reference2 : reference_poured 2 n ≡ b.devices.picture.reference2
  pub reference3 : reference_poured 3 n ≡ b.devices.picture.reference3
  pub halted : is_set board.Halted n ≡ b.devices.halted

abbrev pub MadeAgain : Type 0
MadeAgain = (b : Core) (n : ConsoleNumbers) → AreNumbersOf b n → AreInRange b → NumbersMakeAgain b n

-- the bytes of the sound queues and of the wave are those of a board, and each is one
pub record AreBytesOf (b : Core) (n : ConsoleNumbers) : Type 0 where
  pub queue_a : n.queue_a ≡ b.devices.sound.queue_a.bytes
  pub queue_b : n.queue_b ≡ b.devices.sound.queue_b.bytes
  pub wave0 : n.wave0 ≡ b.devices.tones.wave.bank0
  pub wave1 : n.wave1 ≡ b.devices.tones.wave.bank1
  pub fit_a : AreBytes n.queue_a
  pub fit_b : AreBytes n.queue_b
  pub fit0 : AreBytes n.wave0
  pub fit1 : AreBytes n.wave1

-- The sound queues and the wave are of these alone, and the modes that players last told of numbers.
pub record BytesMakeAgain (b : Core) (n : ConsoleNumbers) : Type 0 where
  pub queue_a : queue_poured 0 n ≡ b.devices.sound.queue_a
  pub queue_b : queue_poured 1 n ≡ b.devices.sound.queue_b
  pub wave0 : bytes_cut n.wave0 ≡ b.devices.tones.wave.bank0
  pub wave1 : bytes_cut n.wave1 ≡ b.devices.tones.wave.bank1
  pub known : (player : ℕ) → player < 4 → mode_poured player n ≡ known_mode b.serial.known player

abbrev pub BytesAgain : Type 0
BytesAgain =
    (b : Core) (n : ConsoleNumbers) → AreNumbersOf b n → AreInRange b → AreBytesOf b n → BytesMakeAgain b n

-- The transfer that runs is of numbers alone.
abbrev pub RunAgain : Type 0
RunAgain =
    (b : Core) (n : ConsoleNumbers) → AreNumbersOf b n → AreInRange b → IfSome b.serial.run (λ run. length run.got ≡ 4)
    → run_poured n ≡ b.serial.run

-- The numbers of the tone channels are those that they say of themselves, which with the wave and with what is stored
-- in their registers make them again.
abbrev pub TonesAgain : Type 0
TonesAgain =
    (b : Core) (n : ConsoleNumbers) → AreNumbersOf b n → AreInRange b → tone_numbers n ≡ numbers_of b.devices.tones
