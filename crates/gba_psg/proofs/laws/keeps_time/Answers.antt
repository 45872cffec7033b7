use Rattle.gba_psg.proofs.Time.{keeps-time}
use Rattle.gba_psg.proofs.laws.keeps_time.Goals as goal

pub returns : goal.returns
returns c = keeps-time
