-- Memories may cross threads, and be seen by several.
use denote.Param.Send.{IsSend, IsSync, sendable}
use Rattle.std.proofs.Crossing.{crosses}
use Rattle.gba_flash.proofs.Crossing.{flash_send, flash_sync}
use Rattle.gba_mem.specs.contracts.backup.BackupChip as BackupChip
use Rattle.gba_mem.specs.contracts.backup.Sram as Sram
use Rattle.gba_mem.specs.contracts.memory.Memory as Memory

sram_send : IsSend Sram.the_row
sram_send = search (sendable, crosses) depth 20

sram_sync : IsSync Sram.the_row
sram_sync = search (sendable, crosses) depth 20

chip_send : IsSend (BackupChip.the_field).row
chip_send = search (sendable, crosses, flash_send, sram_send) depth 20

chip_sync : IsSync (BackupChip.the_field).row
chip_sync = search (sendable, crosses, flash_sync, sram_sync) depth 20

pub memory_send : IsSend Memory.the_row
memory_send = search (sendable, crosses, chip_send) depth 20

pub memory_sync : IsSync Memory.the_row
memory_sync = search (sendable, crosses, chip_sync) depth 20
