use Rattle.std.proofs.Common.{sym}
use Rattle.gba_psr.proofs.Kept.{length-arrangement}
use Rattle.gba_psr.proofs.Views.{status_kept}
use Rattle.gba_psr.proofs.registers.Registers.cpsr.Goals as goal

pub returns-clause-value : goal.returns-clause-value
returns-clause-value c = rw (← c.self.view_is) (sym (status_kept c.self.inside.numbers))

pub returns-clause-file : goal.returns-clause-file
returns-clause-file c =
    rw (← c.self.view_is) (record {
      count = length-arrangement c.self.inside.numbers;
      status_kept = rw (status_kept c.self.inside.numbers) c.self.invariant;
    })
