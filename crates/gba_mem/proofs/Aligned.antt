use Rattle.std.proofs.Common.{◌≡◌, ℕ, ◌+◌, ◌/◌, ◌%◌, ◌^◌, ◌<◌, nat_lt, refl, arith}
use Rattle.std.proofs.lemmas.Bool.Decides.{nat_tests}
use Rattle.gba_bus.specs.Regions.{region_of}
use Rattle.gba_bus.specs.Widths.{aligned, size}
use Rattle.gba_bus.specs.declared.width.Width.{Width}
use Rattle.gba_bus.specs.declared.width.Width.TheVariants.{Byte, Half, Word}
use Rattle.gba_mem.specs.Places.{inner_place, palette_place, rom_place, vram_place, work_place}

-- The bytes of an aligned access stand one after another in one region, and one after another in their memory.

block-same : (width : Width) (address i : ℕ) → i < size width → (aligned width address + i) / 2 ^ 24 ≡ address / 2 ^ 24
block-same Byte address i h = omega arith
block-same Half address i h = omega arith
block-same Word address i h = omega arith

test-same : (n : ℕ) (width : Width) (address i : ℕ) → i < size width → n % 4 ≡ 0
    → nat_lt (aligned width address + i) n ≡ nat_lt address n
test-same n Byte address i h e = grind (arith, nat_tests)
test-same n Half address i h e = grind (arith, nat_tests)
test-same n Word address i h e = grind (arith, nat_tests)

pub region-same : (width : Width) (address i : ℕ) → i < size width
    → region_of (aligned width address + i) ≡ region_of address
unfolding region_of
region-same width address i h =
    rw (
      block-same width address i h,
      test-same 0x4000 width address i h refl,
      test-same 0x04000400 width address i h refl,
    ) refl

pub work-next : (width : Width) (address i : ℕ) → i < size width
    → work_place (aligned width address + i) ≡ work_place (aligned width address) + i
work-next Byte address i h = omega arith
work-next Half address i h = omega arith
work-next Word address i h = omega arith

pub inner-next : (width : Width) (address i : ℕ) → i < size width
    → inner_place (aligned width address + i) ≡ inner_place (aligned width address) + i
inner-next Byte address i h = omega arith
inner-next Half address i h = omega arith
inner-next Word address i h = omega arith

pub palette-next : (width : Width) (address i : ℕ) → i < size width
    → palette_place (aligned width address + i) ≡ palette_place (aligned width address) + i
palette-next Byte address i h = omega arith
palette-next Half address i h = omega arith
palette-next Word address i h = omega arith

pub rom-next : (width : Width) (address i : ℕ) → i < size width
    → rom_place (aligned width address + i) ≡ rom_place (aligned width address) + i
rom-next Byte address i h = omega arith
rom-next Half address i h = omega arith
rom-next Word address i h = omega arith

pub vram-next : (width : Width) (address i : ℕ) → i < size width
    → vram_place (aligned width address + i) ≡ vram_place (aligned width address) + i
vram-next Byte address i h = grind (arith, nat_tests)
vram-next Half address i h = grind (arith, nat_tests)
vram-next Word address i h = grind (arith, nat_tests)
