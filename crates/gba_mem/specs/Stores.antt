use Rattle.std.specs.Prelude.{ℕ, ◌+◌, nat_lt, slice_set, if◌then◌else◌}
use Rattle.gba_terms.specs.Bits.{field}
use Rattle.gba_bus.specs.Regions.{region_of}
use Rattle.gba_bus.specs.Widths.{aligned}
use Rattle.gba_bus.specs.declared.region.Region.{Region}
use Rattle.gba_bus.specs.declared.region.Region.TheVariants.{Bios, Work, Inner, Io, Palette, Vram, Oam, Rom0, Rom1, Rom2, Sram, Other}
use Rattle.gba_bus.specs.declared.width.Width.{Width}
use Rattle.gba_bus.specs.declared.width.Width.TheVariants.{Byte, Half, Word}
use Rattle.gba_mem.specs.Backups.{backup_written}
use Rattle.gba_mem.specs.Memories.{Memories}
use Rattle.gba_mem.specs.Places.{inner_place, oam_place, palette_place, sprite_part, vram_place, work_place}

-- What is written, one byte at a time.

-- The memories once a byte was written at an address of a region. BIOS and ROM drop it, and so does what is no memory.
abbrev pub with_byte_in : Region → Memories → ℕ → ℕ → Memories
with_byte_in Bios m address byte = m
with_byte_in Work m address byte = record m { work = slice_set m.work (work_place address) byte }
with_byte_in Inner m address byte = record m { inner = slice_set m.inner (inner_place address) byte }
with_byte_in Io m address byte = m
with_byte_in Palette m address byte = record m { palette = slice_set m.palette (palette_place address) byte }
with_byte_in Vram m address byte = record m { vram = slice_set m.vram (vram_place address) byte }
with_byte_in Oam m address byte = record m { oam = slice_set m.oam (oam_place address) byte }
with_byte_in Rom0 m address byte = m
with_byte_in Rom1 m address byte = m
with_byte_in Rom2 m address byte = m
with_byte_in Sram m address byte = record m { backup = backup_written m.backup address byte }
with_byte_in Other m address byte = m

abbrev pub with_byte : Memories → ℕ → ℕ → Memories
with_byte m address byte = with_byte_in (region_of address) m address byte

-- what one write of a byte after another leaves: as many of a number's low bytes as the width has, the lowest byte
-- first
abbrev pub with_number : {Kept : Type 0} → (Kept → ℕ → ℕ → Kept) → Width → Kept → ℕ → ℕ → Kept
with_number write Byte kept address value = write kept address (field value 0 8)
with_number write Half kept address value =
    write (write kept address (field value 0 8)) (address + 1) (field value 8 8)
with_number write Word kept address value =
    write
    (write
    (write (write kept address (field value 0 8)) (address + 1) (field value 8 8))
    (address + 2) (field value 16 8))
    (address + 3) (field value 24 8)

-- a byte written to both bytes of its halfword
abbrev pub with_both : {Kept : Type 0} → (Kept → ℕ → ℕ → Kept) → Kept → ℕ → ℕ → Kept
with_both write kept address byte = write (write kept address byte) (address + 1) byte

-- What a write leaves, by the region of its address. A byte goes to both bytes of its halfword in the palette and in
-- the VRAM below the part of sprites; that part and the OAM drop it (GBATEK, Writing 8bit Data to Video Memory in GBA
-- Unpredictable Things). The SRAM and the flash take the low byte of any write, once, at its aligned address (this
-- project's profile).
abbrev pub store_in : Region → ℕ → Memories → ℕ → Width → ℕ → Memories
store_in Palette mode m address Byte value = with_both with_byte m (aligned Half address) (field value 0 8)
store_in Vram mode m address Byte value =
    if nat_lt (vram_place address) (sprite_part mode)
    then with_both with_byte m (aligned Half address) (field value 0 8)
    else m
store_in Oam mode m address Byte value = m
store_in Sram mode m address width value = with_byte m (aligned width address) (field value 0 8)
store_in _ mode m address width value = with_number with_byte width m (aligned width address) value

unfoldable pub store : ℕ → Memories → ℕ → Width → ℕ → Memories
store mode m address width value = store_in (region_of address) mode m address width value
