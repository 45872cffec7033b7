use Rattle.gba_timer.proofs.Silence.{quiet-marks}
use Rattle.gba_timer.proofs.laws.quiet_marks.Goals as goal

pub returns : goal.returns
returns c = quiet-marks
