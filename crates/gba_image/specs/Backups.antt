use Rattle.std.specs.Prelude.{ℕ, Bool, ◌==◌, ◌||◌}
use Rattle.gba_image.specs.declared.backup.Backup.{Backup}
use Rattle.gba_image.specs.declared.backup.Backup.TheVariants.{Sram, Flash64, Flash128}

-- how many bytes a backup has (GBATEK, GBA Cart Backup SRAM and GBA Cart Backup Flash ROM)
abbrev pub backup_length : Backup → ℕ
backup_length Sram = 0x8000
backup_length Flash64 = 0x10000
backup_length Flash128 = 0x20000

-- whether there is a backup of so many bytes
abbrev pub is_backup_length : ℕ → Bool
is_backup_length n =
    ((n == backup_length Sram) || (n == backup_length Flash64)) || (n == backup_length Flash128)
