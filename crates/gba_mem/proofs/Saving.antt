use Rattle.std.proofs.Common.{ℕ, refl, sym, ◌∙◌, subst}
use Rattle.std.proofs.lemmas.List.{length-set}
use Rattle.gba_terms.specs.Bits.{field}
use Rattle.gba_bus.specs.Regions.{region_of}
use Rattle.gba_bus.specs.Widths.{aligned}
use Rattle.gba_bus.specs.declared.region.Region.{Region}
use Rattle.gba_bus.specs.declared.region.Region.TheVariants.{Bios, Work, Inner, Io, Palette, Vram, Oam, Rom0, Rom1, Rom2, Sram, Other}
use Rattle.gba_bus.specs.declared.width.Width.{Width}
use Rattle.gba_flash.proofs.Sound.{keeps-kind, stays-sound}
use Rattle.gba_mem.specs.BackupLaw.{BackupsStaySound, IsSoundBackup, StaysSound}
use Rattle.gba_mem.specs.Backups.{BackupMemory, InSram, InFlash, backup_written}
use Rattle.gba_mem.specs.Memories.{Memories}
use Rattle.gba_mem.specs.Places.{flash_place, sram_place}
use Rattle.gba_mem.specs.Wide.{wide_store}
use Rattle.gba_mem.proofs.Storing.{store-wide}

-- What keeps the saves stays what it is.

written-sound : (backup : BackupMemory) (address byte : ℕ) → IsSoundBackup backup
    → StaysSound backup (backup_written backup address byte)
written-sound (InSram bytes) address byte sound =
    record { sound = length-set bytes (sram_place address) byte ∙ sound; kind = refl }
written-sound (InFlash flash) address byte sound =
    record {
      sound = stays-sound (flash_place address) byte flash sound;
      kind =
          keeps-kind (flash_place address) byte flash;
    }

wide-sound : (region : Region) (mode : ℕ) (m : Memories) (address : ℕ) (width : Width) (value : ℕ)
    → IsSoundBackup m.backup → StaysSound m.backup (wide_store region mode m address width value).backup
unfolding wide_store
wide-sound Sram mode m address width value sound =
    written-sound m.backup (aligned width address) (field value 0 8) sound
wide-sound Bios mode m address width value sound = record { sound = sound; kind = refl }
wide-sound Work mode m address width value sound = record { sound = sound; kind = refl }
wide-sound Inner mode m address width value sound = record { sound = sound; kind = refl }
wide-sound Io mode m address width value sound = record { sound = sound; kind = refl }
wide-sound Palette mode m address width value sound = record { sound = sound; kind = refl }
wide-sound Vram mode m address width value sound = record { sound = sound; kind = refl }
wide-sound Oam mode m address width value sound = record { sound = sound; kind = refl }
wide-sound Rom0 mode m address width value sound = record { sound = sound; kind = refl }
wide-sound Rom1 mode m address width value sound = record { sound = sound; kind = refl }
wide-sound Rom2 mode m address width value sound = record { sound = sound; kind = refl }
wide-sound Other mode m address width value sound = record { sound = sound; kind = refl }

pub stay-sound : BackupsStaySound
stay-sound mode m address width value sound =
    subst (λ (n : Memories). StaysSound m.backup n.backup) (sym (store-wide mode m address width value))
    (wide-sound (region_of address) mode m address width value sound)
