use Rattle.std.proofs.Common.{arith}
use Rattle.gba_dis.proofs.FirstUnits.{arm_word, arm_byte, arm_none}
use Rattle.gba_dis.proofs.units.first_arm.Goals as goal

pub returns-in-empty-clause-unit : goal.returns-in-empty-clause-unit
returns-in-empty-clause-unit c = arm_none c.args.bytes.now (omega arith)

pub returns-in-len1-up-clause-unit : goal.returns-in-len1-up-clause-unit
returns-in-len1-up-clause-unit c = arm_byte c.args.bytes.now (omega arith) (omega arith)

pub returns-in-len4-up-clause-unit : goal.returns-in-len4-up-clause-unit
returns-in-len4-up-clause-unit c = rw c.from_le_bytes.ensures (arm_word c.args.bytes.now (omega arith))
