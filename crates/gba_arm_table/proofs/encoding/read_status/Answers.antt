use Rattle.gba_arm_table.proofs.encoding.read_status.Goals as goal

pub returns : goal.returns
returns c = cc
