-- A board may cross threads, and be seen by several.
use denote.Param.Send.{IsSend, IsSync, sendable}
use Rattle.std.proofs.Crossing.{crosses}
use Rattle.gba_devices.specs.contracts.devices.Devices as Devices
use Rattle.gba_mem.proofs.Crossing.{memory_send, memory_sync}
use Rattle.gba_price_table.specs.contracts.table.PriceTable as PriceTable
use Rattle.gba_screen.specs.contracts.screen.Screen as Screen
use Rattle.gba_serial.specs.contracts.serial.Serial as Serial
use Rattle.gba_io.specs.contracts.board.Board as Board
use Rattle.gba_io.specs.contracts.ended.Ended as Ended
use Rattle.gba_io.specs.contracts.made.Made as Made
use Rattle.gba_io.specs.contracts.parts.Core as Core

screen_send : IsSend Screen.the_row
screen_send = search (sendable, crosses, memory_send) depth 20

screen_sync : IsSync Screen.the_row
screen_sync = search (sendable, crosses, memory_sync) depth 20

devices_send : IsSend Devices.the_row
devices_send = search (sendable, crosses) depth 60 fits 100000

devices_sync : IsSync Devices.the_row
devices_sync = search (sendable, crosses) depth 60 fits 100000

serial_send : IsSend Serial.the_row
serial_send = search (sendable, crosses) depth 60 fits 30000

serial_sync : IsSync Serial.the_row
serial_sync = search (sendable, crosses) depth 60 fits 30000

prices_send : IsSend PriceTable.the_row
prices_send = search (sendable, crosses) depth 20

prices_sync : IsSync PriceTable.the_row
prices_sync = search (sendable, crosses) depth 20

core_send : IsSend Core.the_row
core_send = search (sendable, crosses, screen_send, devices_send, serial_send, prices_send) depth 20

core_sync : IsSync Core.the_row
core_sync = search (sendable, crosses, screen_sync, devices_sync, serial_sync, prices_sync) depth 20

made_send : IsSend Made.the_row
made_send = search (sendable, crosses) depth 20

made_sync : IsSync Made.the_row
made_sync = search (sendable, crosses) depth 20

ended_send : IsSend Ended.the_row
ended_send = search (sendable, crosses) depth 20

ended_sync : IsSync Ended.the_row
ended_sync = search (sendable, crosses) depth 20

pub board_send : IsSend (Board.the_field).row
board_send = search (sendable, crosses, core_send, made_send, ended_send) depth 20

pub board_sync : IsSync (Board.the_field).row
board_sync = search (sendable, crosses, core_sync, made_sync, ended_sync) depth 20
