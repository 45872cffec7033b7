use Rattle.gba_session.proofs.Crossing.{session_sync}
use Rattle.gba_session.proofs.digests.add_side_by_side.Goals as goal
use denote.Param.Send.{sendable}

pub for_each_mut-requires-sync-F : goal.for_each_mut-requires-sync-F
for_each_mut-requires-sync-F g c = search (session_sync, sendable) depth 40 fits 100000
