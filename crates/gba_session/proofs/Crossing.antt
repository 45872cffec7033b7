-- A session may be seen by several threads, and digests may cross them.
use denote.Param.Send.{IsSend, IsSync, sendable}
use Rattle.std.proofs.Crossing.{crosses}
use Rattle.gba_console.proofs.Crossing.{console_sync}
use Rattle.gba_session.specs.contracts.digests.Digests as Digests
use Rattle.gba_session.specs.contracts.player.Player as Player
use Rattle.gba_session.specs.contracts.session.Session as Session

player_sync : IsSync Player.the_row
player_sync = search (crosses, sendable) depth 60 fits 100000

pub session_sync : IsSync Session.the_row
session_sync = search (console_sync, player_sync, crosses, sendable) depth 60 fits 100000

pub digests_send : IsSend Digests.the_row
digests_send = search (crosses, sendable) depth 60 fits 100000
