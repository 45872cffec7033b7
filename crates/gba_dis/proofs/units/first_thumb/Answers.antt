use Rattle.std.proofs.Common.{arith}
use Rattle.gba_dis.proofs.FirstUnits.{thumb_byte, thumb_call_by, thumb_half_by, thumb_last_half, thumb_none}
use Rattle.gba_dis.proofs.units.first_thumb.Goals as goal

pub returns-in-empty-clause-unit : goal.returns-in-empty-clause-unit
returns-in-empty-clause-unit c = thumb_none c.args.bytes.now (omega arith)

pub returns-in-len1-clause-unit : goal.returns-in-len1-clause-unit
returns-in-len1-clause-unit c = thumb_byte c.args.bytes.now (omega arith)

pub returns-in-len2-up-clause-unit : goal.returns-in-len2-up-clause-unit
returns-in-len2-up-clause-unit c =
    rw c.from_le_bytes.ensures (thumb_last_half c.args.bytes.now (omega arith) (omega arith))

pub returns-then-is_call-clause-unit : goal.returns-then-is_call-clause-unit
returns-then-is_call-clause-unit c =
    thumb_call_by c.args.bytes.now c.from_le_bytes-first.result c.from_le_bytes-second.result (omega arith)
    c.from_le_bytes-first.ensures c.from_le_bytes-second.ensures c.if-is_call.ensures

pub returns-else-is_call-clause-unit : goal.returns-else-is_call-clause-unit
returns-else-is_call-clause-unit c =
    thumb_half_by c.args.bytes.now c.from_le_bytes-first.result c.from_le_bytes-second.result (omega arith)
    c.from_le_bytes-first.ensures c.from_le_bytes-second.ensures c.if-is_call.ensures
