use Rattle.gba_asm.proofs.Passes.{says}
use Rattle.gba_asm.proofs.laws.answered.Goals as goal

pub returns : goal.returns
returns c = record { law = says }
