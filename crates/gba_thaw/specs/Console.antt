-- The console that the lines of a frozen file make of one of their job.
use Rattle.std.specs.Prelude.{ℕ, ◌%◌, ◌^◌, ◌-◌, ◌==◌, Bool, ◌&&◌, List, Option, Some, None, if◌then◌else◌}
use Rattle.std.specs.Str.{bytes_eq}
use Rattle.gba_console.specs.Machine.{Machine}
use Rattle.gba_console.specs.Pouring.{machine_poured, machine_with_flash, machine_with_part}
use Rattle.gba_console.specs.declared.pouring.ConsoleParts.{ConsoleParts}
use Rattle.gba_filling.specs.Drawn.{DrawnLines}
use Rattle.gba_flash.specs.declared.machine.FlashMachine.{FlashMachine}
use Rattle.gba_flash.specs.declared.machine.FlashState.{FlashState}
use Rattle.gba_flash.specs.declared.machine.FlashState.TheVariants as state
use Rattle.gba_loose_devices.specs.Cable.{serial_poured}
use Rattle.gba_loose_devices.specs.Checks.{are_sound_devices, has_status}
use Rattle.gba_loose_devices.specs.Devices.{channels_poured, keys_poured}
use Rattle.gba_loose_devices.specs.Picture.{place_poured}
use Rattle.gba_loose_devices.specs.Whole.{board_poured, registers_poured}
use Rattle.gba_mem.specs.Backups.{backup_of}
use Rattle.gba_mem.specs.declared.part.MemoryPart.TheVariants as part
use Rattle.gba_numbers.specs.Numbers.{ConsoleNumbers, value_of}
use Rattle.gba_numbers.specs.declared.fields.Field.TheVariants as field
use Rattle.gba_numbers.specs.declared.names.MemoryName.{MemoryName}
use Rattle.gba_numbers.specs.declared.names.MemoryName.TheVariants as memory
use Rattle.gba_serial.specs.Making.{seat_of}
use Rattle.gba_serial.specs.SerialUnit.{SerialUnit}
use Rattle.gba_snapshot.specs.Io.{io_bytes}
use Rattle.gba_thaw.specs.Stored.{has_stored_bits}
use Rattle.gba_thaw.specs.Checks.{are_applied, are_drawn, are_known, has_mode, have_left, is_aligned, is_sound_flash, is_timed, runs_rightly}

-- the bytes of each memory, the I/O registers among them
abbrev pub MemoryBytes : Type 0
MemoryBytes = MemoryName → List ℕ

-- What a flash remembers, of its numbers. Without one they are 0.
abbrev pub state_numbered : ℕ → FlashState
state_numbered number =
    if number == 0 then state.Ready
    else if number == 1 then state.First
    else if number == 2 then state.Second
    else if number == 3 then state.Program
    else state.Bank

unfoldable pub flash_thawed : ConsoleNumbers → FlashMachine
flash_thawed n = record {
  state = state_numbered (value_of field.FlashState n);
  armed = value_of field.FlashArmed n == 1;
  identify = value_of field.FlashIdentify n == 1;
  bank = value_of field.FlashBank n % 2 ^ 32;
}

-- the serial unit, at the seat of the console at its start
abbrev pub unit_thawed : Machine → ConsoleNumbers → List ℕ → SerialUnit
unit_thawed m n io = serial_poured (seat_of m.board.core.serial) n io

-- what its devices and its processor are made of needs this
unfoldable pub can_be_made : Machine → ConsoleNumbers → List ℕ → Bool
can_be_made m n io =
    has_stored_bits io && has_status n && are_sound_devices n io
    && is_sound_flash (backup_of m.board.core.memory.backup) (flash_thawed n)

-- and a run can go on from it only where, beside that, these tests hold
unfoldable pub can_go_on : ℕ → Machine → ConsoleNumbers → List ℕ → DrawnLines → Bool
can_go_on until m n io drawn =
    is_aligned (registers_poured n) && is_timed until n && are_applied m.keys (keys_poured io).pressed n
    && are_drawn (place_poured n) drawn && have_left (channels_poured n io) && has_mode n (unit_thawed m n io)
    && runs_rightly m.off n (unit_thawed m n io) && are_known (unit_thawed m n io)

-- the parts of the console
abbrev pub parts_thawed : Machine → ConsoleNumbers → List ℕ → ConsoleParts
parts_thawed m n io = record {
  registers = registers_poured n;
  board = board_poured (seat_of m.board.core.serial) n io;
  applied = value_of field.Applied n;
  was = value_of field.Was n;
}

-- The end of the room of its lists, which has passed: it steps no further before they are emptied for a segment.
abbrev pub limit_thawed : ConsoleNumbers → ℕ
limit_thawed n = value_of field.Clock n - 511

-- its memories
abbrev pub with_memories : MemoryBytes → Machine → Machine
with_memories bytes m =
    machine_with_part part.Backup 0 (bytes memory.Backup)
    (machine_with_part part.Oam 0 (bytes memory.Oam)
    (machine_with_part part.Vram 0 (bytes memory.Vram)
    (machine_with_part part.Palette 0 (bytes memory.Palette)
    (machine_with_part part.Inner 0 (bytes memory.Iwram)
    (machine_with_part part.Work 0 (bytes memory.Wram) m)))))

-- The console: its images, its seat, all changes of its keys, the clock below which it is off, and what is kept of what
-- it makes are those of the console at its start.
abbrev pub machine_thawed : Machine → ConsoleNumbers → MemoryBytes → List (List ℕ) → Machine
machine_thawed m n bytes lines =
    machine_poured (parts_thawed m n (bytes memory.Io)) lines (limit_thawed n)
    (machine_with_flash (flash_thawed n) (with_memories bytes m))

-- The bytes of the I/O registers are those that the console has then: so the timers' reloads and controls and the wave
-- stand there too, and what is only read is what would be read; a halfword that isn't there is 0.
abbrev pub says_io : MemoryBytes → Machine → Bool
says_io bytes m = bytes_eq (io_bytes 512 m.board.core) (bytes memory.Io)

-- the console, if a run can go on from it, in a job of so many cycles
unfoldable pub console_thawed : ℕ → Machine → ConsoleNumbers → MemoryBytes → DrawnLines → Option Machine
console_thawed until m n bytes drawn =
    if can_be_made m n (bytes memory.Io) && can_go_on until m n (bytes memory.Io) drawn
    && says_io bytes (machine_thawed m n bytes drawn.lines)
    then Some (machine_thawed m n bytes drawn.lines)
    else None
