use Rattle.std.specs.Prelude.{ℕ, List, Option, Some, None, slice_index, slice_set}
use Rattle.gba_flash.specs.Flash.{FlashMemory, flash_at_first, flash_read, flash_written}
use Rattle.gba_flash.specs.Replacing.{with_bytes, zeros}
use Rattle.gba_flash.specs.declared.machine.FlashMachine.{FlashMachine}
use Rattle.gba_image.specs.declared.backup.Backup.{Backup}
use Rattle.gba_image.specs.declared.backup.Backup.TheVariants.{Sram, Flash64, Flash128}
use Rattle.gba_mem.specs.Places.{flash_place, sram_place}

-- What keeps the saves of a cartridge: SRAM, as its bytes from the front up, or a flash.
pub data BackupMemory : Type 0 where
  InSram : List ℕ → BackupMemory
  InFlash : FlashMemory → BackupMemory

-- which of them it is, and the bytes that a save of it has
abbrev pub backup_of : BackupMemory → Backup
backup_of (InSram bytes) = Sram
backup_of (InFlash flash) = flash.backup

abbrev pub backup_bytes : BackupMemory → List ℕ
backup_bytes (InSram bytes) = bytes
backup_bytes (InFlash flash) = flash.bytes

-- with these bytes, before anything is written
abbrev pub backup_at_start : Backup → List ℕ → BackupMemory
backup_at_start Sram bytes = InSram bytes
backup_at_start Flash64 bytes = InFlash (flash_at_first bytes Flash64)
backup_at_start Flash128 bytes = InFlash (flash_at_first bytes Flash128)

-- the byte at an address
abbrev pub backup_byte : BackupMemory → ℕ → ℕ
backup_byte (InSram bytes) address = slice_index bytes (sram_place address)
backup_byte (InFlash flash) address = flash_read (flash_place address) flash

-- what a byte that is written at an address leaves: SRAM has it, and a flash takes it for a part of its commands
abbrev pub backup_written : BackupMemory → ℕ → ℕ → BackupMemory
backup_written (InSram bytes) address byte = InSram (slice_set bytes (sram_place address) byte)
backup_written (InFlash flash) address byte = InFlash (flash_written (flash_place address) byte flash)

-- what a flash remembers beside its bytes; SRAM remembers nothing
abbrev pub flash_machine : BackupMemory → Option FlashMachine
flash_machine (InSram bytes) = None
flash_machine (InFlash flash) = Some flash.machine

-- the same, where a flash goes on from what another one remembered
abbrev pub with_machine : FlashMachine → BackupMemory → BackupMemory
with_machine machine (InSram bytes) = InSram bytes
with_machine machine (InFlash flash) = InFlash (record flash { machine = machine })

-- the same, where bytes are replaced from a place on
abbrev pub with_backup_bytes : ℕ → List ℕ → BackupMemory → BackupMemory
with_backup_bytes place new (InSram bytes) = InSram (with_bytes place new bytes)
with_backup_bytes place new (InFlash flash) = InFlash (record flash { bytes = with_bytes place new flash.bytes })

-- the same, where every byte is 0
abbrev pub backup_cleared : BackupMemory → BackupMemory
backup_cleared (InSram bytes) = InSram (zeros bytes)
backup_cleared (InFlash flash) = InFlash (record flash { bytes = zeros flash.bytes })
