use Rattle.std.specs.Int.{w16, w32, from_le_bytes}
use Rattle.std.specs.Prelude.{ℕ, Bool, false, ◌+◌, ◌*◌, ◌/◌, ◌%◌, ◌^◌, nat_lt, List, [], ◌∷◌, length, slice_index, if◌then◌else◌}
use Rattle.gba_terms.specs.Bits.{field}
use Rattle.gba_bus.specs.Regions.{is_bios, is_sram, region_of}
use Rattle.gba_bus.specs.Widths.{aligned}
use Rattle.gba_bus.specs.declared.region.Region.{Region}
use Rattle.gba_bus.specs.declared.region.Region.TheVariants.{Bios, Work, Inner, Io, Palette, Vram, Oam, Rom0, Rom1, Rom2, Sram, Other}
use Rattle.gba_bus.specs.declared.width.Width.{Width}
use Rattle.gba_bus.specs.declared.width.Width.TheVariants.{Byte, Half, Word}
use Rattle.gba_mem.specs.Backups.{backup_byte}
use Rattle.gba_mem.specs.Memories.{Memories}
use Rattle.gba_mem.specs.Places.{inner_place, oam_place, palette_place, rom_place, vram_place, work_place}

-- What is read, one byte at a time.

-- A byte of ROM. Past the image it is the matching byte of the halfword (address / 2) AND FFFFh (GBATEK, GBA
-- Unpredictable Things).
abbrev pub rom_byte : List ℕ → ℕ → ℕ
rom_byte rom address =
    if nat_lt (rom_place address) (length rom)
    then slice_index rom (rom_place address)
    else field (address / 2 % 2 ^ 16) (8 * (address % 2)) 8

-- The byte at an address of a region, for an instruction that stands in the BIOS or not: to one outside the BIOS
-- reads 0. The I/O registers are none of these memories, and where there is no memory 0 is read (this project's
-- profile).
abbrev pub byte_in : Region → Bool → Memories → ℕ → ℕ
byte_in Bios in_bios m address = if in_bios then slice_index m.bios address else 0
byte_in Work in_bios m address = slice_index m.work (work_place address)
byte_in Inner in_bios m address = slice_index m.inner (inner_place address)
byte_in Io in_bios m address = 0
byte_in Palette in_bios m address = slice_index m.palette (palette_place address)
byte_in Vram in_bios m address = slice_index m.vram (vram_place address)
byte_in Oam in_bios m address = slice_index m.oam (oam_place address)
byte_in Rom0 in_bios m address = rom_byte m.rom address
byte_in Rom1 in_bios m address = rom_byte m.rom address
byte_in Rom2 in_bios m address = rom_byte m.rom address
byte_in Sram in_bios m address = backup_byte m.backup address
byte_in Other in_bios m address = 0

abbrev pub byte_at : Bool → Memories → ℕ → ℕ
byte_at in_bios m address = byte_in (region_of address) in_bios m address

-- The number of as many bytes as the width has, from an address up, the lowest byte first. A list of the definitions
-- may have any numbers, and each is cut to its width, since every state of a bus has to read what fits. Of bytes the
-- cut takes nothing.
abbrev pub number_of : (ℕ → ℕ) → Width → ℕ → ℕ
number_of byte Byte address = byte address % 2 ^ 8
number_of byte Half address = from_le_bytes w16 (byte address ∷ byte (address + 1) ∷ []) % 2 ^ 16
number_of byte Word address =
    from_le_bytes w32 (byte address ∷ byte (address + 1) ∷ byte (address + 2) ∷ byte (address + 3) ∷ []) % 2 ^ 32

-- What an access reads at its aligned address. The SRAM and the flash have one byte at a time, which a wider access
-- reads in every place (this project's profile).
unfoldable pub load : Memories → ℕ → ℕ → Width → ℕ
load m from address width =
    if is_sram (region_of address)
    then number_of (λ _. byte_at false m (aligned width address)) width 0
    else number_of (byte_at (is_bios (region_of from)) m) width (aligned width address)
