use Rattle.std.specs.Prelude.{◌≡◌, ℕ, length}
use Rattle.gba_bus.specs.declared.width.Width.{Width}
use Rattle.gba_flash.specs.Soundness.{IsSoundFlash}
use Rattle.gba_image.specs.Backups.{backup_length}
use Rattle.gba_image.specs.declared.backup.Backup.TheVariants.{Sram}
use Rattle.gba_mem.specs.Backups.{BackupMemory, InSram, InFlash, backup_of}
use Rattle.gba_mem.specs.Memories.{Memories}
use Rattle.gba_mem.specs.Stores.{store}

-- What always holds of what keeps the saves: it has the bytes of its kind, and a flash's machine is a sound one.
abbrev pub IsSoundBackup : BackupMemory → Type 0
IsSoundBackup (InSram bytes) = length bytes ≡ backup_length Sram
IsSoundBackup (InFlash flash) = IsSoundFlash flash

-- It is still so, and of the same kind.
pub record StaysSound (before after : BackupMemory) : Type 0 where
  pub sound : IsSoundBackup after
  pub kind : backup_of after ≡ backup_of before

-- whatever is stored
abbrev pub BackupsStaySound : Type 0
BackupsStaySound =
    (mode : ℕ) (m : Memories) (address : ℕ) (width : Width) (value : ℕ) → IsSoundBackup m.backup
    → StaysSound m.backup (store mode m address width value).backup
