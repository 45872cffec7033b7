use Rattle.std.specs.Prelude.{ℕ, Bool, ◌+◌, nat_le, nat_lt, List, length, slice_index, slice_set, if◌then◌else◌}
use Rattle.gba_terms.specs.Bits.{field}
use Rattle.gba_bus.specs.Widths.{aligned, size}
use Rattle.gba_bus.specs.declared.region.Region.{Region}
use Rattle.gba_bus.specs.declared.region.Region.TheVariants.{Bios, Work, Inner, Io, Palette, Vram, Oam, Rom0, Rom1, Rom2, Sram, Other}
use Rattle.gba_bus.specs.declared.width.Width.{Width}
use Rattle.gba_bus.specs.declared.width.Width.TheVariants.{Byte, Half}
use Rattle.gba_mem.specs.Backups.{backup_byte, backup_written}
use Rattle.gba_mem.specs.Memories.{Memories}
use Rattle.gba_mem.specs.Places.{inner_place, oam_place, palette_place, rom_place, sprite_part, vram_place, work_place}
use Rattle.gba_mem.specs.Loads.{number_of, rom_byte}
use Rattle.gba_mem.specs.Stores.{with_both, with_number}

-- The same by whole accesses, as the code makes them. Only private functions cite it.

abbrev pub wide_number : List ℕ → Width → ℕ → ℕ
wide_number bytes width place = number_of (slice_index bytes) width place

unfoldable pub wide_rom : List ℕ → Width → ℕ → ℕ
wide_rom rom width address =
    if nat_le (rom_place address + size width) (length rom)
    then wide_number rom width (rom_place address)
    else number_of (rom_byte rom) width address

unfoldable pub wide_load : Region → Bool → Memories → ℕ → Width → ℕ
wide_load Bios in_bios m address width = if in_bios then wide_number m.bios width (aligned width address) else 0
wide_load Work in_bios m address width = wide_number m.work width (work_place (aligned width address))
wide_load Inner in_bios m address width = wide_number m.inner width (inner_place (aligned width address))
wide_load Io in_bios m address width = 0
wide_load Palette in_bios m address width = wide_number m.palette width (palette_place (aligned width address))
wide_load Vram in_bios m address width = wide_number m.vram width (vram_place (aligned width address))
wide_load Oam in_bios m address width = wide_number m.oam width (oam_place (aligned width address))
wide_load Rom0 in_bios m address width = wide_rom m.rom width (aligned width address)
wide_load Rom1 in_bios m address width = wide_rom m.rom width (aligned width address)
wide_load Rom2 in_bios m address width = wide_rom m.rom width (aligned width address)
wide_load Sram in_bios m address width =
    number_of (λ _. backup_byte m.backup (aligned width address)) width 0
wide_load Other in_bios m address width = 0

abbrev pub put_number : Width → List ℕ → ℕ → ℕ → List ℕ
put_number width bytes place value = with_number slice_set width bytes place value

abbrev pub put_both : List ℕ → ℕ → ℕ → List ℕ
put_both bytes place value = with_both slice_set bytes place (field value 0 8)

abbrev pub with_inner : Memories → ℕ → Width → ℕ → Memories
with_inner m address width value =
    record m { inner = put_number width m.inner (inner_place (aligned width address)) value }

unfoldable pub wide_palette : List ℕ → ℕ → Width → ℕ → List ℕ
wide_palette palette address Byte value = put_both palette (palette_place (aligned Half address)) value
wide_palette palette address width value = put_number width palette (palette_place (aligned width address)) value

unfoldable pub wide_vram : ℕ → List ℕ → ℕ → Width → ℕ → List ℕ
wide_vram mode vram address Byte value =
    if nat_lt (vram_place address) (sprite_part mode)
    then put_both vram (vram_place (aligned Half address)) value
    else vram
wide_vram mode vram address width value = put_number width vram (vram_place (aligned width address)) value

unfoldable pub wide_oam : List ℕ → ℕ → Width → ℕ → List ℕ
wide_oam oam address Byte value = oam
wide_oam oam address width value = put_number width oam (oam_place (aligned width address)) value

unfoldable pub wide_store : Region → ℕ → Memories → ℕ → Width → ℕ → Memories
wide_store Work mode m address width value =
    record m { work = put_number width m.work (work_place (aligned width address)) value }
wide_store Inner mode m address width value = with_inner m address width value
wide_store Palette mode m address width value = record m { palette = wide_palette m.palette address width value }
wide_store Vram mode m address width value = record m { vram = wide_vram mode m.vram address width value }
wide_store Oam mode m address width value = record m { oam = wide_oam m.oam address width value }
wide_store Sram mode m address width value =
    record m { backup = backup_written m.backup (aligned width address) (field value 0 8) }
wide_store _ mode m address width value = m
