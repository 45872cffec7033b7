use Rattle.gba_psr.proofs.FileLaws.{entered_then_left}
use Rattle.gba_psr.proofs.laws.enter_then_leave.Goals as goal

pub returns : goal.returns
returns c = entered_then_left
