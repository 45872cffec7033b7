use Rattle.std.proofs.Common.{◌≡◌, ℕ, Bool, true, false, refl}
use Rattle.gba_bus.specs.Widths.{aligned}
use Rattle.gba_bus.specs.declared.region.Region.{Region}
use Rattle.gba_bus.specs.declared.region.Region.TheVariants.{Bios, Inner, Rom0, Rom1, Rom2}
use Rattle.gba_bus.specs.declared.width.Width.{Width}
use Rattle.gba_bus.specs.Regions.{is_bios, is_inner, is_rom}
use Rattle.gba_mem.specs.Memories.{Memories}
use Rattle.gba_mem.specs.Places.{inner_place}
use Rattle.gba_mem.specs.Wide.{wide_load, wide_number, wide_rom, wide_store, with_inner}

-- What is read and written where a test has told the region.

pub bios_code : (region : Region) (in_bios : Bool) (m : Memories) (address : ℕ) (width : Width) → is_bios region ≡ true
    → in_bios ≡ true → wide_load region in_bios m address width ≡ wide_number m.bios width (aligned width address)
unfolding wide_load
bios_code Bios true m address width e f = refl
bios_code Bios false m address width e f = cc
bios_code _ in_bios m address width e f = cc

pub inner_code : (region : Region) (in_bios : Bool) (m : Memories) (address : ℕ) (width : Width)
    → is_inner region ≡ true
    → wide_load region in_bios m address width ≡ wide_number m.inner width (inner_place (aligned width address))
unfolding wide_load
inner_code Inner in_bios m address width e = refl
inner_code _ in_bios m address width e = cc

pub rom_code : (region : Region) (in_bios : Bool) (m : Memories) (address : ℕ) (width : Width) → is_rom region ≡ true
    → wide_load region in_bios m address width ≡ wide_rom m.rom width (aligned width address)
unfolding wide_load
rom_code Rom0 in_bios m address width e = refl
rom_code Rom1 in_bios m address width e = refl
rom_code Rom2 in_bios m address width e = refl
rom_code _ in_bios m address width e = cc

pub inner_write : (region : Region) (mode : ℕ) (m : Memories) (address : ℕ) (width : Width) (value : ℕ)
    → is_inner region ≡ true → wide_store region mode m address width value ≡ with_inner m address width value
unfolding wide_store
inner_write Inner mode m address width value e = refl
inner_write _ mode m address width value e = cc

pub ruleset told_regions = (bios_code, inner_code, rom_code, inner_write)
