use Rattle.std.proofs.Common.{◌≡◌, ℕ, Bool, true, false, refl}
use Rattle.gba_bus.specs.Prices.{price}
use Rattle.gba_bus.specs.Regions.{is_bios, is_inner, is_io, is_rom, region_of}
use Rattle.gba_bus.specs.declared.region.Region.{Region}
use Rattle.gba_bus.specs.declared.region.Region.TheVariants.{Bios, Inner, Rom0, Rom1, Rom2}
use Rattle.gba_bus.specs.declared.width.Width.{Width}
use Rattle.gba_ppu_reg.specs.Registers.{picture_mode}
use Rattle.gba_mem.specs.Loads.{load}
use Rattle.gba_mem.specs.Stores.{store}
use Rattle.gba_io.specs.Core.{Core}
use Rattle.gba_io.specs.Bus.{core_read, core_written}

-- What is read and written where a test has told that an address is no register's.

bios-not-io : (region : Region) → is_bios region ≡ true → is_io region ≡ false
bios-not-io Bios e = refl
bios-not-io _ e = cc

inner-not-io : (region : Region) → is_inner region ≡ true → is_io region ≡ false
inner-not-io Inner e = refl
inner-not-io _ e = cc

rom-not-io : (region : Region) → is_rom region ≡ true → is_io region ≡ false
rom-not-io Rom0 e = refl
rom-not-io Rom1 e = refl
rom-not-io Rom2 e = refl
rom-not-io _ e = cc

pub bios_read : (b : Core) (from address : ℕ) (width : Width) → is_bios (region_of address) ≡ true
    → core_read b from address width ≡ load b.memory from address width
unfolding core_read
bios_read b from address width e = rw (bios-not-io (region_of address) e) refl

pub inner_read : (b : Core) (from address : ℕ) (width : Width) → is_inner (region_of address) ≡ true
    → core_read b from address width ≡ load b.memory from address width
unfolding core_read
inner_read b from address width e = rw (inner-not-io (region_of address) e) refl

pub rom_read : (b : Core) (from address : ℕ) (width : Width) → is_rom (region_of address) ≡ true
    → core_read b from address width ≡ load b.memory from address width
unfolding core_read
rom_read b from address width e = rw (rom-not-io (region_of address) e) refl

pub inner_written : (b : Core) (address : ℕ) (width : Width) (value : ℕ) → is_inner (region_of address) ≡ true
    → core_written b address width value ≡ record b {
      memory = store (picture_mode b.devices.picture) b.memory address width value;
    }
unfolding core_written
inner_written b address width value e = rw (inner-not-io (region_of address) e) refl

inner-costs : (region : Region) (width : Width) (sequential : Bool) (waits : ℕ) → is_inner region ≡ true
    → price region width sequential waits ≡ 1
unfolding price
inner-costs Inner width sequential waits e = refl
inner-costs _ width sequential waits e = cc

pub inner_price : (address waits : ℕ) (width : Width) (sequential : Bool) → is_inner (region_of address) ≡ true
    → price (region_of address) width sequential waits ≡ 1
inner_price address waits width sequential e = inner-costs (region_of address) width sequential waits e

pub ruleset told_accesses = (bios_read, inner_read, rom_read, inner_written, inner_price)
