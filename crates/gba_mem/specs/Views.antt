use Rattle.gba_mem.specs.Backups.{BackupMemory, InSram, InFlash}
use Rattle.gba_mem.specs.declared.backup.BackupChip.{BackupChip}
use Rattle.gba_mem.specs.declared.backup.BackupChip.TheVariants as chip

-- what the program's chip of a cartridge stands for
abbrev pub backup_value : BackupChip → BackupMemory
backup_value (chip.Sram bytes) = InSram bytes
backup_value (chip.Flash flash) = InFlash flash
