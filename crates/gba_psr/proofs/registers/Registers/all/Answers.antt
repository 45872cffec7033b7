use Rattle.std.proofs.Common.{sym, ◌∙◌, arith}
use Rattle.gba_psr.proofs.Kept.{arranged_is, length-arrangement}
use Rattle.gba_psr.proofs.Views.{status_kept}
use Rattle.gba_psr.proofs.registers.Registers.all.Goals as goal

pub returns-clause-value : goal.returns-clause-value
returns-clause-value c =
    sym (arranged_is c.self.inside.numbers c.exchange.new.numbers (omega arith)
    (rw c.bits.ensures at c.exchange.ensures)) ∙ c.self.view_is

pub returns-clause-file : goal.returns-clause-file
returns-clause-file c =
    rw (← c.self.view_is) (record {
      count = length-arrangement c.self.inside.numbers;
      status_kept = rw (status_kept c.self.inside.numbers) c.self.invariant;
    })
