-- What a frozen file says of a console makes it again.
use Rattle.std.specs.Prelude.{◌≡◌, ℕ, ◌+◌, ◌≤◌, true, false, Some, option_map, List}
use Rattle.gba_console.specs.Machine.{Machine, clock_of}
use Rattle.gba_console.specs.Shorn.{shorn}
use Rattle.gba_devices.specs.Parts.{devices_of}
use Rattle.gba_devices.specs.State.{begun}
use Rattle.gba_filling.specs.Drawn.{DrawnLines}
use Rattle.gba_io.specs.Core.{Core}
use Rattle.gba_loose_devices.specs.Cable.{serial_poured}
use Rattle.gba_loose_devices.specs.Devices.{channels_poured, interrupts_poured, keys_poured}
use Rattle.gba_loose_devices.specs.Picture.{picture_poured}
use Rattle.gba_loose_devices.specs.Sound.{sound_poured, tones_poured}
use Rattle.gba_loose_devices.specs.Whole.{devices_poured}
use Rattle.gba_mem.specs.BackupLaw.{IsSoundBackup}
use Rattle.gba_numbers.specs.Numbers.{ConsoleNumbers, value_of}
use Rattle.gba_numbers.specs.declared.fields.Field.TheVariants.{Clock}
use Rattle.gba_serial.specs.Making.{seat_of}
use Rattle.gba_serial.specs.Tell.{silent}
use Rattle.gba_snapshot.specs.Console.{HaveLengths, backup_in, memory_bytes}
use Rattle.gba_snapshot.specs.Io.{io_bytes}
use Rattle.gba_snapshot.specs.Snapshot.{numbers_of}
use Rattle.gba_thaw.specs.Console.{console_thawed}
use Rattle.gba_thaw.specs.Stored.{has_stored_bits}
use Rattle.gba_device_laws.specs.Cable.{SerialHolds}
use Rattle.gba_device_laws.specs.Holding.{ChannelsHold, DevicesHold, PictureHolds}
use Rattle.gba_thaw_laws.specs.Holds.{Holds}
use Rattle.gba_thaw_laws.specs.Said.{AreHalvesOf, Says}

-- ---- the I/O registers

-- The bytes of the I/O registers, read as halfwords, are what is stored there.
abbrev pub HalvesAgain : Type 0
HalvesAgain = (b : Core) → AreHalvesOf b (io_bytes 512 b)

-- What a frozen file says of a console that keeps its rules.
abbrev pub SaysItself : Type 0
SaysItself = (m : Machine) → Holds m → Says m.board.core (numbers_of m) (io_bytes 512 m.board.core)

-- ---- the devices, one by one

abbrev pub ChannelsThawAgain : Type 0
ChannelsThawAgain =
    (b : Core) (n : ConsoleNumbers) (io : List ℕ) → Says b n io → ChannelsHold b.devices.channels
    → channels_poured n io ≡ b.devices.channels

abbrev pub PictureThawsAgain : Type 0
PictureThawsAgain =
    (b : Core) (n : ConsoleNumbers) (io : List ℕ) → Says b n io → PictureHolds b.devices.picture
    → picture_poured n io ≡ b.devices.picture

-- direct sound and the tones, which have two registers in common
pub record SoundsThawAgain (b : Core) (n : ConsoleNumbers) (io : List ℕ) : Type 0 where
  pub sound : sound_poured n io ≡ b.devices.sound
  pub tones : tones_poured n io ≡ b.devices.tones

abbrev pub SoundThawsAgain : Type 0
SoundThawsAgain =
    (b : Core) (n : ConsoleNumbers) (io : List ℕ) → Says b n io → DevicesHold b.devices → SoundsThawAgain b n io

pub record ControlsThawAgain (b : Core) (io : List ℕ) : Type 0 where
  pub interrupts : interrupts_poured io ≡ b.devices.interrupts
  pub keys : keys_poured io ≡ b.devices.keys

-- interrupts and the keypad
abbrev pub ControlThawsAgain : Type 0
ControlThawsAgain =
    (b : Core) (io : List ℕ) → AreHalvesOf b io → DevicesHold b.devices → ControlsThawAgain b io

-- The serial unit has nothing to tell.
abbrev pub SerialThawsAgain : Type 0
SerialThawsAgain =
    (b : Core) (n : ConsoleNumbers) (io : List ℕ) → Says b n io → SerialHolds b.serial
    → serial_poured (seat_of b.serial) n io ≡ silent b.serial

-- ---- all devices

-- The accesses of the next step take the prices of WAITCNT.
abbrev pub DevicesThawAgain : Type 0
DevicesThawAgain =
    (b : Core) (n : ConsoleNumbers) (io : List ℕ) → Says b n io → value_of Clock n ≡ b.devices.clock
    → DevicesHold b.devices
    → devices_of (devices_poured n io) ≡ begun b.devices

-- Each halfword has only bits that may be 1 in a frozen file.
abbrev pub BitsAreStored : Type 0
BitsAreStored =
    (b : Core) (io : List ℕ) → AreHalvesOf b io → DevicesHold b.devices → SerialHolds b.serial → has_stored_bits io ≡ true

-- ---- the console

-- A console of the same job at its start: it has the same images, a backup of the same kind, the same seat and changes
-- of the keys, it is off below the same clock, and it keeps the same lists.
pub record IsStartOf (m start : Machine) : Type 0 where
  pub bios : start.board.core.memory.bios ≡ m.board.core.memory.bios
  pub rom : start.board.core.memory.rom ≡ m.board.core.memory.rom
  pub lengths : HaveLengths start.board.core
  pub backup : IsSoundBackup start.board.core.memory.backup
  pub kind : backup_in start ≡ backup_in m
  pub seat : seat_of start.board.core.serial ≡ seat_of m.board.core.serial
  pub keys : start.keys ≡ m.keys
  pub off : start.off ≡ m.off
  pub frames : start.board.made.keeps_frames ≡ m.board.made.keeps_frames
  pub samples : start.board.made.keeps_samples ≡ m.board.made.keeps_samples
  pub words : start.board.ended.keeps_words ≡ m.board.ended.keeps_words

-- the drawn lines of a console
abbrev pub drawn_of : Machine → DrawnLines
drawn_of m = record { lines = m.board.core.lines; has_gap = false }

-- What a frozen file says of a console makes it of one at its start, but for what no step looks at: in a job of so many
-- cycles a run can go on from it where it began its last step below the job's end.
abbrev pub ThawsAgain : Type 0
ThawsAgain =
    (until : ℕ) (start m : Machine) → IsStartOf m start → Holds m → clock_of m ≤ until + 511
    → option_map shorn (console_thawed until start (numbers_of m) (memory_bytes m.board.core) (drawn_of m))
    ≡ Some (shorn m)
