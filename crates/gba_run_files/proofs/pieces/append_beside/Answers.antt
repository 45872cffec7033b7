use denote.Param.Send.{sendable}
use Rattle.gba_session.proofs.Crossing.{digests_send, session_sync}
use Rattle.gba_run_files.proofs.pieces.append_beside.Goals as goal

pub join_mut-end-requires-send-F : goal.join_mut-end-requires-send-F
join_mut-end-requires-send-F g c = search (digests_send, session_sync, sendable) depth 40 fits 100000
