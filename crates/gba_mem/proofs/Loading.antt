use Rattle.std.proofs.Common.{◌≡◌, ℕ, ◌+◌, ◌%◌, ◌^◌, ◌<◌, ◌≤◌, Bool, true, false, nat_le, List, length, slice_index, if◌then◌else◌, refl, sym, ◌∙◌, ap, add-zero, arith}
use Rattle.std.proofs.lemmas.Bool.Decides.{nat_tests}
use Rattle.gba_bus.specs.Regions.{is_bios, is_sram, region_of}
use Rattle.gba_bus.specs.Widths.{aligned, size}
use Rattle.gba_bus.specs.declared.region.Region.{Region}
use Rattle.gba_bus.specs.declared.region.Region.TheVariants.{Bios, Work, Inner, Io, Palette, Vram, Oam, Rom0, Rom1, Rom2, Sram, Other}
use Rattle.gba_bus.specs.declared.width.Width.{Width}
use Rattle.gba_bus.specs.declared.width.Width.TheVariants.{Byte, Half, Word}
use Rattle.gba_mem.specs.Loads.{byte_at, byte_in, load, number_of, rom_byte}
use Rattle.gba_mem.specs.Memories.{Memories}
use Rattle.gba_mem.specs.Places.{inner_place, oam_place, palette_place, rom_place, vram_place, work_place}
use Rattle.gba_mem.specs.Wide.{wide_load, wide_rom}
use Rattle.gba_mem.proofs.Aligned.{inner-next, palette-next, region-same, rom-next, vram-next, work-next}

-- A load made whole is the load made byte by byte.

first-same : (f g : ℕ → ℕ) (a p : ℕ) → f (a + 0) ≡ g (p + 0) → f a ≡ g p
first-same f g a p same = ap f (sym (add-zero a)) ∙ same ∙ ap g (add-zero p)

-- two numbers of the same bytes are one
pub number-as : (f g : ℕ → ℕ) (width : Width) (a p : ℕ) → ((i : ℕ) → i < size width → f (a + i) ≡ g (p + i))
    → number_of f width a ≡ number_of g width p
number-as f g Byte a p same = ap (λ n. n % 2 ^ 8) (first-same f g a p (same 0 (omega arith)))
number-as f g Half a p same =
    rw (first-same f g a p (same 0 (omega arith)), same 1 (omega arith)) refl
number-as f g Word a p same =
    rw (
      first-same f g a p (same 0 (omega arith)),
      same 1 (omega arith),
      same 2 (omega arith),
      same 3 (omega arith),
    ) refl

number-zero : (width : Width) (a : ℕ) → number_of (λ _. 0) width a ≡ 0
number-zero Byte a = refl
number-zero Half a = refl
number-zero Word a = refl

bios-as : (in_bios : Bool) (m : Memories) (address : ℕ) (width : Width)
    → number_of (byte_in Bios in_bios m) width (aligned width address) ≡ wide_load Bios in_bios m address width
unfolding wide_load
bios-as true m address width = refl
bios-as false m address width = number-zero width (aligned width address)

rom-inside : (rom : List ℕ) (width : Width) (address i : ℕ) → i < size width
    → rom_place (aligned width address) + size width ≤ length rom
    → rom_byte rom (aligned width address + i) ≡ slice_index rom (rom_place (aligned width address) + i)
rom-inside rom width address i h inside = rw (rom-next width address i h) (grind (arith, nat_tests))

rom-as-either : (rom : List ℕ) (width : Width) (address : ℕ) (test : Bool)
    → nat_le (rom_place (aligned width address) + size width) (length rom) ≡ test
    → number_of (rom_byte rom) width (aligned width address) ≡ wide_rom rom width (aligned width address)
unfolding wide_rom
rom-as-either rom width address true e =
    rw e (number-as (rom_byte rom) (slice_index rom) width (aligned width address) (rom_place (aligned width address))
    (λ i h. rom-inside rom width address i h (grind (arith, nat_tests))))
rom-as-either rom width address false e = rw e refl

rom-as : (rom : List ℕ) (width : Width) (address : ℕ)
    → number_of (rom_byte rom) width (aligned width address) ≡ wide_rom rom width (aligned width address)
rom-as rom width address =
    rom-as-either rom width address (nat_le (rom_place (aligned width address) + size width) (length rom)) refl

-- what is read, where the region is known
region_load : Region → Bool → Memories → ℕ → Width → ℕ
region_load region in_bios m address width =
    if is_sram region
    then number_of (λ _. byte_in region false m (aligned width address)) width 0
    else number_of (byte_in region in_bios m) width (aligned width address)

region-load-wide : (region : Region) (in_bios : Bool) (m : Memories) (address : ℕ) (width : Width)
    → region_load region in_bios m address width ≡ wide_load region in_bios m address width
unfolding region_load wide_load
region-load-wide Bios in_bios m address width = bios-as in_bios m address width
region-load-wide Work in_bios m address width =
    number-as (byte_in Work in_bios m) (slice_index m.work) width (aligned width address)
    (work_place (aligned width address))
    (λ i h. ap (slice_index m.work) (work-next width address i h))
region-load-wide Inner in_bios m address width =
    number-as (byte_in Inner in_bios m) (slice_index m.inner) width (aligned width address)
    (inner_place (aligned width address))
    (λ i h. ap (slice_index m.inner) (inner-next width address i h))
region-load-wide Io in_bios m address width = number-zero width (aligned width address)
region-load-wide Palette in_bios m address width =
    number-as (byte_in Palette in_bios m) (slice_index m.palette) width (aligned width address)
    (palette_place (aligned width address)) (λ i h. ap (slice_index m.palette) (palette-next width address i h))
region-load-wide Vram in_bios m address width =
    number-as (byte_in Vram in_bios m) (slice_index m.vram) width (aligned width address)
    (vram_place (aligned width address))
    (λ i h. ap (slice_index m.vram) (vram-next width address i h))
region-load-wide Oam in_bios m address width =
    number-as (byte_in Oam in_bios m) (slice_index m.oam) width (aligned width address)
    (oam_place (aligned width address))
    (λ i h. ap (slice_index m.oam) (palette-next width address i h))
region-load-wide Rom0 in_bios m address width = rom-as m.rom width address
region-load-wide Rom1 in_bios m address width = rom-as m.rom width address
region-load-wide Rom2 in_bios m address width = rom-as m.rom width address
region-load-wide Sram in_bios m address width = refl
region-load-wide Other in_bios m address width = number-zero width (aligned width address)

byte-as : (in_bios : Bool) (m : Memories) (width : Width) (address i : ℕ) → i < size width
    → byte_at in_bios m (aligned width address + i) ≡ byte_in (region_of address) in_bios m (aligned width address + i)
byte-as in_bios m width address i h =
    ap (λ region. byte_in region in_bios m (aligned width address + i)) (region-same width address i h)

size-positive : (width : Width) → 0 < size width
size-positive Byte = omega arith
size-positive Half = omega arith
size-positive Word = omega arith

byte-as-first : (in_bios : Bool) (m : Memories) (width : Width) (address : ℕ)
    → byte_at in_bios m (aligned width address) ≡ byte_in (region_of address) in_bios m (aligned width address)
byte-as-first in_bios m width address =
    first-same (byte_at in_bios m) (byte_in (region_of address) in_bios m) (aligned width address)
    (aligned width address)
    (byte-as in_bios m width address 0 (size-positive width))

either-as : (test : Bool) (a b c d : ℕ) → a ≡ b → c ≡ d → (if test then a else c) ≡ (if test then b else d)
either-as true a b c d e f = e
either-as false a b c d e f = f

load-region : (m : Memories) (from address : ℕ) (width : Width)
    → load m from address width ≡ region_load (region_of address) (is_bios (region_of from)) m address width
unfolding load region_load
load-region m from address width =
    either-as (is_sram (region_of address)) (number_of (λ _. byte_at false m (aligned width address)) width 0)
    (number_of (λ _. byte_in (region_of address) false m (aligned width address)) width 0)
    (number_of (byte_at (is_bios (region_of from)) m) width (aligned width address))
    (number_of (byte_in (region_of address) (is_bios (region_of from)) m) width (aligned width address))
    (number-as (λ _. byte_at false m (aligned width address))
    (λ _. byte_in (region_of address) false m (aligned width address))
    width 0 0 (λ i h. byte-as-first false m width address))
    (number-as (byte_at (is_bios (region_of from)) m) (byte_in (region_of address) (is_bios (region_of from)) m) width
    (aligned width address) (aligned width address) (λ i h. byte-as (is_bios (region_of from)) m width address i h))

pub load-wide : (m : Memories) (from address : ℕ) (width : Width)
    → load m from address width ≡ wide_load (region_of address) (is_bios (region_of from)) m address width
load-wide m from address width =
    load-region m from address width ∙ region-load-wide (region_of address) (is_bios (region_of from)) m address width
