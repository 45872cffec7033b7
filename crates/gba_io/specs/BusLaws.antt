use Rattle.std.proofs.Common.{ℕ, Bool, true, false, if◌then◌else◌}
use Rattle.gba_bus.specs.Meanings.{CodeFits, CodePriced, LoadsFit, LoadsPriced, StoresPriced}
use Rattle.gba_bus.specs.PriceLaws.{price-within}
use Rattle.gba_bus.specs.Regions.{is_io, region_of}
use Rattle.gba_bus.specs.Widths.{FitsWidth}
use Rattle.gba_bus.specs.declared.width.Width.{Width}
use Rattle.gba_devices.specs.Registers.{half_read, io_loaded}
use Rattle.gba_mem.specs.Fits.{load-fits}
use Rattle.gba_mem.specs.Loads.{load}
use Rattle.gba_register.specs.Fits.{loads-fit}
use Rattle.gba_serial.specs.Registers.{serial_read}
use Rattle.gba_io.specs.Core.{Core}
use Rattle.gba_io.specs.Bus.{core_code, core_load, core_price, core_read, core_store, io_offset, register_loaded}
use Rattle.gba_io.specs.SerialRegisters.{is_serial, serial_loaded}

-- That a core keeps what every bus keeps, for the laws of the trait.

pub core_code_prices : CodePriced core_price
core_code_prices b address width sequential = price-within (region_of address) width sequential b.devices.priced

pub core_load_prices : LoadsPriced core_load
core_load_prices b from address width sequential = price-within (region_of address) width sequential b.devices.priced

pub core_store_prices : StoresPriced core_store
core_store_prices b address width value sequential =
    price-within (region_of address) width sequential b.devices.priced

either-fits : (test : Bool) (width : Width) (one other : ℕ) → FitsWidth width one → FitsWidth width other
    → FitsWidth width (if test then one else other)
either-fits true width one other here there = here
either-fits false width one other here there = there

register-fits : (offset : ℕ) (width : Width) (b : Core) → FitsWidth width (register_loaded offset width b)
unfolding register_loaded
register-fits offset width b =
    either-fits (is_serial offset) width (serial_loaded offset width b.serial) (io_loaded offset width b.devices)
    (loads-fit (λ place. serial_read place b.serial) offset width)
    (loads-fit (λ place. half_read place b.devices) offset width)

read-fits : (b : Core) (from address : ℕ) (width : Width) → FitsWidth width (core_read b from address width)
unfolding core_read
read-fits b from address width =
    either-fits (is_io (region_of address)) width (register_loaded (io_offset address) width b)
    (load b.memory from address width)
    (register-fits (io_offset address) width b)
    (load-fits b.memory from address width)

pub core_code_fits : CodeFits core_code
core_code_fits b address width = read-fits b address address width

pub core_loads_fit : LoadsFit core_load
core_loads_fit b from address width sequential = read-fits b from address width
