use Rattle.std.specs.Prelude.{ℕ, ◌-◌, if◌then◌else◌}
use Rattle.gba_bus.specs.Meanings.{Code, Load, Price, Store}
use Rattle.gba_bus.specs.Prices.{price}
use Rattle.gba_bus.specs.Regions.{is_io, region_of}
use Rattle.gba_bus.specs.declared.width.Width.{Width}
use Rattle.gba_devices.specs.Registers.{io_loaded, io_written}
use Rattle.gba_ppu_reg.specs.Registers.{picture_mode}
use Rattle.gba_mem.specs.Loads.{load}
use Rattle.gba_mem.specs.Stores.{store}
use Rattle.gba_io.specs.Core.{Core}
use Rattle.gba_io.specs.SerialRegisters.{is_serial, serial_loaded, serial_written_at}

-- The core of a board as a bus (GBATEK, GBA Memory Map): the I/O registers are those of the devices and of the serial
-- unit, and all else is memory, in whose VRAM the sprites' part begins where the picture's mode says. Prices are those
-- of WAITCNT as it was at the start of the step (this project's profile).

-- where a register stands: its offset from 04000000h
abbrev pub io_offset : ℕ → ℕ
io_offset address = address - 0x04000000

-- what a register reads, and what a write of one leaves: the serial unit's are written at the clock of the step
unfoldable pub register_loaded : ℕ → Width → Core → ℕ
register_loaded offset width b =
    if is_serial offset then serial_loaded offset width b.serial else io_loaded offset width b.devices

unfoldable pub register_written : ℕ → Width → ℕ → Core → Core
register_written offset width value b =
    if is_serial offset
    then record b { serial = serial_written_at b.devices.clock offset width value b.serial }
    else record b { devices = io_written offset width value b.devices }

-- what an instruction at `from` reads at an address
unfoldable pub core_read : Core → ℕ → ℕ → Width → ℕ
core_read b from address width =
    if is_io (region_of address) then register_loaded (io_offset address) width b
    else load b.memory from address width

-- what a write leaves
unfoldable pub core_written : Core → ℕ → Width → ℕ → Core
core_written b address width value =
    if is_io (region_of address) then register_written (io_offset address) width value b
    else record b { memory = store (picture_mode b.devices.picture) b.memory address width value }

abbrev pub core_price : Price Core
core_price b address width sequential = price (region_of address) width sequential b.devices.priced

abbrev pub core_code : Code Core
core_code b address width = record { value = core_read b address address width; after = b }

abbrev pub core_load : Load Core
core_load b from address width sequential =
    record { value = core_read b from address width; price = core_price b address width sequential; after = b }

abbrev pub core_store : Store Core
core_store b address width value sequential =
    record { price = core_price b address width sequential; after = core_written b address width value }
