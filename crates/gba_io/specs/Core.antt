use Rattle.std.specs.Prelude.{ℕ, Bool, not, ◌&&◌, List, [], Option, if◌then◌else◌}
use Rattle.gba_devices.specs.Registers.{half_listed, keyed}
use Rattle.gba_devices.specs.State.{Devices, begun, devices_at_reset, is_calm, is_idle, rested, woken}
use Rattle.gba_devices.specs.Cycles.{after_cycles, device_cycle}
use Rattle.gba_image.specs.Backups.{backup_length}
use Rattle.gba_image.specs.declared.backup.Backup.{Backup}
use Rattle.gba_flash.specs.declared.machine.FlashMachine.{FlashMachine}
use Rattle.gba_mem.specs.Backups.{backup_bytes, backup_of, with_machine}
use Rattle.gba_mem.specs.Memories.{Memories, at_start}
use Rattle.gba_mem.specs.Replacing.{cleared, with_part}
use Rattle.gba_mem.specs.declared.part.MemoryPart.{MemoryPart}
use Rattle.gba_io.specs.SerialRegisters.{is_serial}
use Rattle.gba_serial.specs.Registers.{serial_listed}
use Rattle.gba_serial.specs.SerialUnit.{SerialUnit, serial_at_reset}
use Rattle.gba_serial.specs.Take.{learned}
use Rattle.gba_serial.specs.Tell.{has_news, silent}
use Rattle.gba_numbers.specs.declared.names.MemoryName.{MemoryName}
use Rattle.gba_numbers.specs.declared.names.MemoryName.TheVariants.{Io, Wram, Iwram, Palette, Vram, Oam}
use Rattle.gba_numbers.specs.declared.names.MemoryName.TheVariants as named
use Rattle.link_node.specs.declared.signal.Incoming.{Incoming}

-- The core of a board: the memories, the devices and the serial unit, and the lines that are drawn of the present frame
-- of the picture, each as its bytes.
pub record Core : Type 0 where
  pub memory : Memories
  pub devices : Devices
  pub serial : SerialUnit
  pub lines : List (List ℕ)

-- a core at reset, from its player number, the number of consoles, the way from player 0 to player 1 and back, a BIOS,
-- a cartridge, a save and what it is kept in
abbrev pub core_at_start : ℕ → ℕ → ℕ → List ℕ → Option (List ℕ) → Option (List ℕ) → Backup → Core
core_at_start player count round bios cart save backup = record {
  memory = at_start bios cart save backup;
  devices = devices_at_reset;
  serial = serial_at_reset player count round;
  lines = [];
}

-- What a step asks of it besides its accesses. At its start the prices become those of WAITCNT, and what the last step
-- told is told.
abbrev pub core_begun : Core → Core
core_begun b = record b { devices = begun b.devices; serial = silent b.serial }

-- nothing asks for more than an instruction, or for more than idling; nor has the last step told anything
abbrev pub core_is_calm : Core → Bool
core_is_calm b = is_calm b.devices && not (has_news b.serial)

abbrev pub core_is_idle : Core → Bool
core_is_idle b = is_idle b.devices && not (has_news b.serial)

-- what is stored at a halfword of the I/O registers
unfoldable pub core_half_listed : ℕ → Core → ℕ
core_half_listed offset b = if is_serial offset then serial_listed offset b.serial else half_listed offset b.devices

-- While its console is off, so many cycles pass in which no device moves, and a signal only tells its sender's mode.
abbrev pub core_rested : ℕ → Core → Core
core_rested cycles b = record b { devices = rested cycles b.devices }

abbrev pub core_learned : Incoming → Core → Core
core_learned due b = record b { serial = learned due b.serial }

abbrev pub core_woken : Core → Core
core_woken b = record b { devices = woken b.devices }

abbrev pub core_keyed : ℕ → Core → Core
core_keyed pressed b = record b { devices = keyed pressed b.devices }

-- a device cycle, and so many of them
abbrev pub core_cycled : Core → Core
core_cycled b = record b { devices = device_cycle b.devices }

abbrev pub core_after : ℕ → Core → Core
core_after count b = record b { devices = after_cycles count b.devices }

-- the bytes of a memory by its name in the state file; the I/O registers are none of these memories
abbrev pub memory_named : MemoryName → Memories → List ℕ
memory_named Io m = []
memory_named Wram m = m.work
memory_named Iwram m = m.inner
memory_named Palette m = m.palette
memory_named Vram m = m.vram
memory_named Oam m = m.oam
memory_named named.Backup m = backup_bytes m.backup

-- how many bytes it has
abbrev pub length_named : MemoryName → Memories → ℕ
length_named Io m = 0
length_named Wram m = 0x40000
length_named Iwram m = 0x8000
length_named Palette m = 0x400
length_named Vram m = 0x18000
length_named Oam m = 0x400
length_named named.Backup m = backup_length (backup_of m.backup)

-- What a core is made of is replaced, which is no write of a program and leaves the lines that are drawn: bytes of a
-- memory from a place on, every byte of the memories that are written, and what a flash remembers.
abbrev pub core_with_part : MemoryPart → ℕ → List ℕ → Core → Core
core_with_part part place new b = record b { memory = with_part part place new b.memory }

abbrev pub core_cleared : Core → Core
core_cleared b = record b { memory = cleared b.memory }

abbrev pub core_with_machine : FlashMachine → Core → Core
core_with_machine machine b = record b { memory = record b.memory { backup = with_machine machine b.memory.backup } }

-- these devices, this serial unit and these lines stand beside its memories
abbrev pub core_poured : Devices → SerialUnit → List (List ℕ) → Core → Core
core_poured devices serial lines b = record { memory = b.memory; devices = devices; serial = serial; lines = lines }
