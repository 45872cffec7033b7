-- A flash may cross threads, and be seen by several.
use denote.Param.Send.{IsSend, IsSync, sendable}
use Rattle.std.proofs.Crossing.{crosses}
use Rattle.gba_flash.specs.contracts.flash.Flash as Flash

pub flash_send : IsSend Flash.the_row
flash_send = search (sendable, crosses) depth 20

pub flash_sync : IsSync Flash.the_row
flash_sync = search (sendable, crosses) depth 20
